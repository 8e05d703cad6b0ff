-- The kept globals, functions and types stay correct, as types, globals and functions are added.
use Rattle.smith_draw_definitions.proofs.Common.{[], All, All-head, All-weaker, ap, AreKeptOffers, arith, Bool, Concrete, Context, Exact}
use Rattle.smith_draw_definitions.proofs.Common.{Extends, false, get_or_from_slice_get, GlobalType, if◌then◌else◌, IsFuncTypeIndex}
use Rattle.smith_draw_definitions.proofs.Common.{IsGlobalValid, IsOrderly, length, List, refl, slice_get, slice_get_within, subst, SubType}
use Rattle.smith_draw_definitions.proofs.Common.{sym, take, true, ValType, ℕ, ◌++◌, ◌+◌, ◌<◌, ◌∙◌, ◌∷◌, ◌≡◌, ◌≤◌}
use Rattle.std.proofs.Common.{None, Option, Some}
use Rattle.std.specs.Prelude.{IfSome, nat_le, nat_lt, not, ◌&&◌}
use Rattle.std.proofs.lemmas.List.{length-append, length-take-le, take-append-le}
use Rattle.std.proofs.lemmas.List.Elements.{All-tail, All-take}
use Rattle.smith_types.specs.Expressions.{created, function_reference, reference_to}
use Rattle.smith_types.specs.Subtyping.{IsValInRange}
use Rattle.smith_types.specs.Syntax.composite_type.CompositeInnerType.{CompositeInnerType}
use Rattle.smith_types.specs.Syntax.composite_type.CompositeInnerType.TheVariants as inner
use Rattle.smith_validity.proofs.ReferredTypeLemmas.{value_in_range}
use Rattle.smith_draw_types.specs.Below.{is_val_below}
use Rattle.smith_draw_consts.specs.ConstOffers.{each_from, offered_if, global_offers, function_offers, struct_ways, array_ways, type_offers}
use Rattle.smith_draw_consts.specs.ConstOffers.{ways_by}
use Rattle.smith_draw_consts.specs.KeptOffers.{AreClasses, AreFewRead, AreFlags, AreItemsRead, AreManyKept, AreRecorded}
use Rattle.smith_draw_consts.specs.KeptOffers.{AreWaysCounted, IsEntry, IsKeptOffer, IsKeptWays, is_offered, offered_before, readable}
use Rattle.smith_draw_consts.specs.declared.block_counts.BlockCounts.{BlockCounts}
use Rattle.smith_draw_consts.specs.declared.classes.Classes.{Classes}
use Rattle.smith_draw_consts.specs.declared.few_items.FewItems.{FewItems}
use Rattle.smith_draw_consts.specs.declared.kept_offers.KeptOffer.{KeptOffer}
use Rattle.smith_draw_consts.specs.declared.kept_offers.KeptOffers.{KeptOffers}
use Rattle.smith_draw_consts.specs.declared.kept_offers.ManyItems.{ManyItems}
use Rattle.smith_draw_consts.specs.declared.kept_ways.KeptTypes.{KeptTypes}
use Rattle.smith_draw_consts.specs.declared.kept_ways.KeptWays.{KeptWays}
use Rattle.smith_draw_consts.specs.declared.read_items.ReadItems.{ReadItems}
use Rattle.smith_draw_consts.proofs.BlockCountLemmas.{counted_alike}
use Rattle.smith_draw_consts.proofs.ClassLemmas.{get_within_front}
use Rattle.smith_draw_consts.proofs.KeptWayLemmas.{each_near}
use Rattle.smith_draw_types.proofs.GroundingLemmas.{within_reference}
use Rattle.smith_draw_definitions.proofs.BelowGrowthLemmas.{value_longer, value_same}

-- the globals and functions of a context are valid over its types, which are orderly
pub record AreValidOver (context : Context) : Type 0 where
  pub orderly : IsOrderly context.types
  pub funcs : All (IsFuncTypeIndex context.types) context.funcs
  pub globals : All (IsGlobalValid context.features context.types) context.globals

-- a context with more types, functions and globals at their ends, of the same features, and with
-- the same number of imported functions
pub record HasMore (old new : Context) : Type 0 where
  pub features : new.features ≡ old.features
  pub types : Extends old.types new.types
  pub funcs : Extends old.funcs new.funcs
  pub globals : Extends old.globals new.globals
  pub imported_funcs : new.imported_funcs ≡ old.imported_funcs

-- if each item offers the same, so do all
each_same : {A B : Type 0} (P : A → Type 0) (f g : ℕ → A → List B) → ((i : ℕ) (x : A) → P x → f i x ≡ g i x) → (start : ℕ) (xs : List A)
    → All P xs → each_from f start xs ≡ each_from g start xs
each_same P f g same start [] each = refl
each_same P f g same start (x ∷ xs) each =
    ap (λ ys. ys ++ each_from f (start + 1) xs) (same start x (All-head P x xs each)) ∙ ap (λ ys. g start x ++ ys)
    (each_same P f g same (start + 1) xs (All-tail P x xs each))

-- the offers of two tests with the same result
offered_same : {B : Type 0} (a b : Bool) (x : B) → a ≡ b → offered_if a x ≡ offered_if b x
offered_same a b x same = ap (λ (offered : Bool). offered_if offered x) same

-- the first items of a longer list are the same
seen_same : {A : Type 0} (n : ℕ) (xs ys : List A) → Extends xs ys → n ≤ length xs → take n xs ≡ take n ys
seen_same n xs ys longer inside = sym (ap (take n) longer.parts ∙ take-append-le n xs longer.more inside)

-- the first items of a longer list offer as many
before_same : {A B : Type 0} (P : A → Type 0) (f g : ℕ → A → List B) → ((i : ℕ) (x : A) → P x → f i x ≡ g i x) → (xs ys : List A)
    → Extends xs ys → All P xs → (n : ℕ) → n ≤ length xs → length (each_from f 0 (take n xs)) ≡ length (each_from g 0 (take n ys))
before_same {A} P f g same xs ys longer each n inside =
    ap length (each_same P f g same 0 (take n xs) (All-take P n xs each)) ∙ ap (λ (zs : List A). length (each_from g 0 zs))
    (seen_same n xs ys longer inside)

no_shorter : {A : Type 0} (n : ℕ) (xs ys : List A) → Extends xs ys → n ≤ length xs → n ≤ length ys
no_shorter n xs ys longer inside = let longer = ap length longer.parts ∙ length-append xs longer.more in omega (arith, longer, inside)

func_in_range : (types : List SubType) (index : ℕ) → IsFuncTypeIndex types index → index < length types
func_in_range types index (function, (t, at, is)) = slice_get_within types index t at

module _ (old new : Context) (valid : AreValidOver old) (more : HasMore old new) where
  below_same : (a b : ValType) → IsValInRange old.types a → IsValInRange old.types b → is_val_below new.types a b ≡ is_val_below old.types a
      b
  below_same a b lower upper = subst (λ (xs : List SubType). is_val_below xs a b ≡ is_val_below old.types a b) (sym more.types.parts)
      (value_same old.types more.types.more valid.orderly a b lower upper)

  reference_same : (function index : ℕ) → function_reference new function index ≡ function_reference old function index
  reference_same function index = λ i. if nat_le (more.imported_funcs i) function then reference_to
      (if (more.features i).custom_descriptors then Exact index else Concrete index) else reference_to (Concrete index)

  global_same : (wanted : ValType) → IsValInRange old.types wanted → (i : ℕ) (global : GlobalType)
      → IsGlobalValid old.features old.types global → global_offers old wanted i global ≡ global_offers new wanted i global
  global_same wanted upper i global is =
      let below = sym (below_same global.val_type wanted (value_in_range old.features old.types global.val_type is.value) upper) in
      offered_same (not global.mutable && is_val_below old.types global.val_type wanted)
      (not global.mutable && is_val_below new.types global.val_type wanted) _ (ap (λ (yes : Bool). not global.mutable && yes) below)

  function_same : (wanted : ValType) → IsValInRange old.types wanted → (i index : ℕ) → IsFuncTypeIndex old.types index
      → function_offers old wanted i index ≡ function_offers new wanted i index
  function_same wanted upper i index is =
      let lower = within_reference old.types index (nat_le old.imported_funcs i) old.features.custom_descriptors
      (func_in_range old.types index is) in
      let below = ap (λ (reference : ValType). is_val_below new.types reference wanted) (reference_same i index) ∙ below_same
      (function_reference old i index) wanted lower upper in
      offered_same (is_val_below old.types (function_reference old i index) wanted)
      (is_val_below new.types (function_reference new i index) wanted) _ (sym below)

  offer_grown : (offer : KeptOffer) → IsKeptOffer old offer → IsKeptOffer new offer
  offer_grown offer kept = record {
    wanted = subst (λ (xs : List SubType). IsValInRange xs offer.wanted) (sym more.types.parts)
        (value_longer old.types more.types.more offer.wanted kept.wanted);
    globals_seen = no_shorter offer.globals.seen old.globals new.globals more.globals kept.globals_seen;
    globals =
        counted_alike (offered_before (global_offers old offer.wanted) old.globals)
        (offered_before (global_offers new offer.wanted) new.globals) offer.globals
        (λ n read. before_same (IsGlobalValid old.features old.types) (global_offers old offer.wanted) (global_offers new offer.wanted)
        (global_same offer.wanted kept.wanted) old.globals new.globals more.globals valid.globals n
        (omega (arith, read, kept.globals_seen)))
        kept.globals;
    funcs_seen = no_shorter offer.funcs.seen old.funcs new.funcs more.funcs kept.funcs_seen;
    funcs =
        counted_alike (offered_before (function_offers old offer.wanted) old.funcs)
        (offered_before (function_offers new offer.wanted) new.funcs) offer.funcs
        (λ n read. before_same (IsFuncTypeIndex old.types) (function_offers old offer.wanted) (function_offers new offer.wanted)
        (function_same offer.wanted kept.wanted) old.funcs new.funcs more.funcs valid.funcs n (omega (arith, read, kept.funcs_seen)))
        kept.funcs;
  }

  kind_in_range : (kind : Option ValType) → IfSome kind (IsValInRange old.types) → IfSome kind (IsValInRange new.types)
  kind_in_range None exists = tt
  kind_in_range (Some value) exists = subst (λ (xs : List SubType). IsValInRange xs value) (sym more.types.parts)
      (value_longer old.types more.types.more value exists)

  classes_grown : {A : Type 0} (before after : ℕ → A → Option ValType) (xs ys : List A) (classes : Classes)
      → ((i : ℕ) (x : A) → before i x ≡ after i x) → Extends xs ys → AreClasses old.types before xs classes
      → AreClasses new.types after ys classes
  classes_grown {A} before after xs ys classes same longer are = record {
    seen = no_shorter (length classes.of) xs ys longer are.seen;
    few = are.few;
    in_range = All-weaker (λ (kind : Option ValType). IfSome kind (IsValInRange old.types))
        (λ (kind : Option ValType). IfSome kind (IsValInRange new.types)) kind_in_range classes.kinds are.in_range;
    same = λ i x inside at.
        let here : slice_get xs i ≡ Some x = get_within_front xs longer.more i x (omega (arith, inside, are.seen))
        (sym (ap (λ (zs : List A). slice_get zs i) longer.parts) ∙ at) in
        are.same i x inside here ∙ ap (λ (kind : Option ValType). Some kind) (same i x);
  }

  kind_same : (wanted : ValType) → IsValInRange old.types wanted → (kind : Option ValType) → IfSome kind (IsValInRange old.types)
      → is_offered old.types wanted kind ≡ is_offered new.types wanted kind
  kind_same wanted upper None exists = refl
  kind_same wanted upper (Some value) exists = sym (below_same value wanted exists upper)

  flags_grown : (wanted : ValType) (kinds : List (Option ValType)) (flags : List Bool) → IsValInRange old.types wanted
      → All (λ (kind : Option ValType). IfSome kind (IsValInRange old.types)) kinds → AreFlags old.types wanted kinds flags
      → AreFlags new.types wanted kinds flags
  flags_grown wanted kinds flags upper exist are = record {
    few = are.few;
    right = λ k kind inside at.
        let exists : IfSome kind (IsValInRange old.types) = subst (λ (each : Option ValType). IfSome each (IsValInRange old.types))
        (get_or_from_slice_get kinds k kind kind at) (exist k kind (slice_get_within kinds k kind at)) in
        are.right k kind inside at ∙ ap (λ (flag : Bool). Some flag) (kind_same wanted upper kind exists);
  }

  items_grown : (items : ReadItems) → AreItemsRead old items → AreItemsRead new items
  items_grown items read = record {
    globals = classes_grown (λ index global. readable global) (λ index global. readable global) old.globals new.globals items.globals
        (λ i x. refl) more.globals read.globals;
    funcs = classes_grown (λ function index. Some (function_reference old function index))
        (λ function index. Some (function_reference new function index)) old.funcs new.funcs items.funcs
        (λ function index. ap (λ (value : ValType). Some value) (sym (reference_same function index))) more.funcs read.funcs;
  }

  entry_grown : (items : ReadItems) → AreItemsRead old items → (offer : KeptOffer) → IsEntry old items offer → IsEntry new items offer
  entry_grown items read offer entry = record {
    kept = offer_grown offer entry.kept;
    globals = flags_grown offer.wanted items.globals.kinds offer.global_flags entry.kept.wanted read.globals.in_range entry.globals;
    funcs = flags_grown offer.wanted items.funcs.kinds offer.func_flags entry.kept.wanted read.funcs.in_range entry.funcs;
  }

  -- what is recorded of the first items is correct for a longer list
  recorded_grown : {A B : Type 0} (record_of : ℕ → A → B) (xs ys : List A) (records : List B) → Extends xs ys
      → AreRecorded record_of xs records → AreRecorded record_of ys records
  recorded_grown {A} record_of xs ys records longer are = record {
    few = no_shorter (length records) xs ys longer are.few;
    same = λ i x inside at. are.same i x inside (get_within_front xs longer.more i x (omega (arith, inside, are.few))
        (sym (ap (λ (zs : List A). slice_get zs i) longer.parts) ∙ at));
  }

  few_grown : (few : FewItems) → AreFewRead old few → AreFewRead new few
  few_grown few read = record {
    globals = recorded_grown (λ index global. readable global) old.globals new.globals few.globals.items more.globals read.globals;
    funcs = recorded_grown (λ function index. index) old.funcs new.funcs few.funcs.items more.funcs read.funcs;
  }

  many_grown : (many : Option ManyItems) → IfSome many (AreManyKept old) → IfSome many (AreManyKept new)
  many_grown None are = tt
  many_grown (Some many) are = record {
    items = items_grown many.items are.items;
    entries = All-weaker (IsEntry old many.items) (IsEntry new many.items) (entry_grown many.items are.items) many.kept.items are.entries;
  }

  created_same : (index : ℕ) → created new index ≡ created old index
  created_same index = λ i. reference_to (if (more.features i).custom_descriptors then Exact index else Concrete index)

  -- a type is created for the same wanted types
  made_same : (wanted : ValType) → IsValInRange old.types wanted → (index : ℕ) → index < length old.types
      → is_val_below old.types (created old index) wanted ≡ is_val_below new.types (created new index) wanted
  made_same wanted upper index inside =
      let lower = within_reference old.types index true old.features.custom_descriptors inside in
      sym (ap (λ (reference : ValType). is_val_below new.types reference wanted) (created_same index) ∙ below_same (created old index)
      wanted lower upper)

  ways_same : (wanted : ValType) (fuel : ℕ) (arrays : Bool) → IsValInRange old.types wanted → (index : ℕ) (i : CompositeInnerType)
      → index < length old.types → type_offers old wanted fuel arrays index i ≡ type_offers new wanted fuel arrays index i
  ways_same wanted fuel false upper index (inner.Struct structure) inside =
      ap (λ (below : Bool). if below then struct_ways fuel index structure.fields else []) (made_same wanted upper index inside)
  ways_same wanted fuel false upper index (inner.Array array) inside = refl
  ways_same wanted fuel false upper index (inner.Func function) inside = refl
  ways_same wanted fuel true upper index (inner.Struct structure) inside = refl
  ways_same wanted fuel true upper index (inner.Array array) inside =
      ap (λ (below : Bool). if nat_lt 0 fuel && below then array_ways index array.0 else []) (made_same wanted upper index inside)
  ways_same wanted fuel true upper index (inner.Func function) inside = refl

  counted_grown : (wanted : ValType) (fuel : ℕ) (arrays : Bool) (counts : BlockCounts) → IsValInRange old.types wanted
      → AreWaysCounted old wanted fuel arrays counts → AreWaysCounted new wanted fuel arrays counts
  counted_grown wanted fuel arrays counts upper are = record {
    seen = no_shorter counts.seen old.types new.types more.types are.seen;
    counted =
        counted_alike (offered_before (ways_by old wanted fuel arrays) old.types)
        (offered_before (ways_by new wanted fuel arrays) new.types) counts
        (λ n read.
        let inside : n ≤ length old.types = omega (arith, read, are.seen) in
        ap length (each_near (length old.types) (ways_by old wanted fuel arrays) (ways_by new wanted fuel arrays)
        (λ i t. ways_same wanted fuel arrays upper i t.composite_type.inner) 0 (take n old.types)
        (omega (arith, length-take-le n old.types inside, inside)))
        ∙ ap (λ (xs : List SubType). length (each_from (ways_by new wanted fuel arrays) 0 xs))
        (seen_same n old.types new.types more.types inside))
        are.counted;
  }

  ways_grown : (ways : KeptWays) → IsKeptWays old ways → IsKeptWays new ways
  ways_grown ways kept = record {
    wanted = subst (λ (xs : List SubType). IsValInRange xs ways.wanted) (sym more.types.parts)
        (value_longer old.types more.types.more ways.wanted kept.wanted);
    bare_structs = counted_grown ways.wanted 0 false ways.bare_structs kept.wanted kept.bare_structs;
    structs = counted_grown ways.wanted 1 false ways.structs kept.wanted kept.structs;
    arrays = counted_grown ways.wanted 1 true ways.arrays kept.wanted kept.arrays;
  }

  types_grown : (types : Option KeptTypes) → IfSome types (λ kept. All (IsKeptWays old) kept.entries.items)
      → IfSome types (λ kept. All (IsKeptWays new) kept.entries.items)
  types_grown None are = tt
  types_grown (Some kept) are = All-weaker (IsKeptWays old) (IsKeptWays new) ways_grown kept.entries.items are

  -- the kept globals, functions and types are correct
  pub kept_grown : (kept : KeptOffers) → AreKeptOffers old kept → AreKeptOffers new kept
  kept_grown kept are = record {
    few = few_grown kept.few are.few;
    many = many_grown kept.many are.many;
    types = types_grown kept.types are.types;
  }
