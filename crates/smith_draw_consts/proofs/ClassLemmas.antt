-- The classes of the items read, and the flags of classes.
use Rattle.smith_draw_consts.proofs.Common.{[], All, All-nil, All-push, ap, arith, Bool, cases_lt, Context, false, function_reference}
use Rattle.smith_draw_consts.proofs.Common.{get_or, get_or_from_slice_get, GlobalType, I32, IfSome, if◌then◌else◌, inl, inr, is_val_below}
use Rattle.smith_draw_consts.proofs.Common.{IsValInRange, length, List, None, not, Option, refl, slice_get, slice_get-get_or}
use Rattle.smith_draw_consts.proofs.Common.{slice_get_within, slice_index, Some, subst, SubType, sym, true, ValType, ℕ, ◌&&◌, ◌++◌, ◌+◌}
use Rattle.smith_draw_consts.proofs.Common.{◌<◌, ◌∙◌, ◌∷◌, ◌≡◌}
use Rattle.std.proofs.lemmas.List.{length-append}
use Rattle.std.proofs.lemmas.List.Elements.{All-weaker}
use Rattle.std.proofs.Math.ListN.{get_or-append}
use Rattle.std.proofs.Math.Seq.{get_or-append_seam}
use Rattle.smith_draw_consts.specs.ConstOffers.{offered_if, global_offers, function_offers}
use Rattle.smith_draw_consts.specs.KeptOffers.{AreClasses, AreFlags, IsEntry, IsNoted, IsTally, is_offered, offered_before, readable}
use Rattle.smith_draw_consts.specs.declared.classes.Classes.{Classes}
use Rattle.smith_draw_consts.specs.declared.kept_offers.KeptOffer.{KeptOffer}
use Rattle.smith_draw_consts.specs.declared.node_choice.Choice.{Choice}
use Rattle.smith_draw_consts.specs.declared.node_choice.Choice.TheVariants as choice
use Rattle.smith_draw_consts.specs.declared.read_items.ReadItems.{ReadItems}
use Rattle.smith_draw_consts.proofs.KeptOfferLemmas.{offered_more, length_if}

-- an element of a list is an element of a longer one
pub get_front : {A : Type 0} (xs ys : List A) (i : ℕ) (x : A) → slice_get xs i ≡ Some x → slice_get (xs ++ ys) i ≡ Some x
get_front {A} xs ys i x at =
    let inside : i < length xs = slice_get_within xs i x at in
    slice_get-get_or (xs ++ ys) i x (omega (arith, length-append xs ys, inside)) ∙ ap (λ (each : A). Some each)
    (get_or-append xs ys x i inside ∙ get_or_from_slice_get xs i x x at)

-- an element of a longer list, within the shorter one
pub get_within_front : {A : Type 0} (xs ys : List A) (i : ℕ) (x : A) → i < length xs → slice_get (xs ++ ys) i ≡ Some x
    → slice_get xs i ≡ Some x
get_within_front {A} xs ys i x inside at = slice_get-get_or xs i x inside ∙ ap (λ (each : A). Some each)
    (sym (get_or-append xs ys x i inside) ∙ get_or_from_slice_get (xs ++ ys) i x x at)

-- the last element
pub get_last : {A : Type 0} (xs : List A) (x : A) (i : ℕ) → i ≡ length xs → slice_get (xs ++ x ∷ []) i ≡ Some x
get_last {A} xs x i end =
    slice_get-get_or (xs ++ x ∷ []) i x (omega (arith, length-append xs (x ∷ []), end))
    ∙ ap (λ (n : ℕ). Some (get_or (xs ++ x ∷ []) n x)) end ∙ ap (λ (each : A). Some each) (get_or-append_seam xs x [] x)

-- two readings of one element
pub same_element : {A : Type 0} (xs : List A) (i : ℕ) (x y : A) → slice_get xs i ≡ Some x → slice_get xs i ≡ Some y → x ≡ y
same_element xs i x y is other = sym (get_or_from_slice_get xs i x x is) ∙ get_or_from_slice_get xs i y x other

-- the class that is noted has its type after
kind_kept : (kind found : Option ValType) (old new : Classes) (k : ℕ) → IsNoted kind old new → slice_get old.kinds k ≡ Some found
    → slice_get new.kinds k ≡ Some found
kind_kept kind found old new k noted at = elim noted.kinds [
  | inl same ↦ ap (λ (kinds : List (Option ValType)). slice_get kinds k) same ∙ at
  | inr more ↦ ap (λ (kinds : List (Option ValType)). slice_get kinds k) more ∙ get_front old.kinds (kind ∷ []) k found at
]

-- an item is noted in a class of its type
pub classes_noted : {A : Type 0} (types : List SubType) (type_of : ℕ → A → Option ValType) (xs : List A) (x : A) (kind : Option ValType)
    (old new : Classes) → AreClasses types type_of xs old → slice_get xs (length old.of) ≡ Some x → kind ≡ type_of (length old.of) x
    → IfSome kind (IsValInRange types) → IsNoted kind old new
    → AreClasses types type_of xs new
classes_noted {A} types type_of xs x kind old new classes at is valid noted =
    let class : ℕ = noted.class.0 in
    let longer : length new.of ≡ length old.of + 1 = ap length noted.class.1 ∙ length-append old.of (class ∷ []) in
    let inside : length old.of < length xs = slice_get_within xs (length old.of) x at in
    record {
      seen = omega (arith, longer, inside);
      few = elim noted.kinds [
        | inl same ↦ omega (arith, longer, ap length same, classes.few)
        | inr more ↦ omega (arith, longer, ap length more ∙ length-append old.kinds (kind ∷ []), classes.few)
      ];
      in_range = elim noted.kinds [
        | inl same ↦ subst (All (λ (each : Option ValType). IfSome each (IsValInRange types))) (sym same) classes.in_range
        | inr more ↦
            subst (All (λ (each : Option ValType). IfSome each (IsValInRange types))) (sym more)
            (All-push (λ (each : Option ValType). IfSome each (IsValInRange types)) old.kinds kind classes.in_range valid)
      ];
      same = λ i y within there. elim (cases_lt i (length old.of)) [
        | inl h ↦
            let before : slice_index new.of i ≡ slice_index old.of i = ap (λ (of : List ℕ). slice_index of i) noted.class.1
            ∙ get_or-append old.of (class ∷ []) 0 i h in
            ap (slice_get new.kinds) before ∙ kind_kept kind (type_of i y) old new (slice_index old.of i) noted (classes.same i y h there)
        | inr h ↦
            let last : i ≡ length old.of = omega (arith, h, within, longer) in
            let its : slice_index new.of i ≡ class = ap (slice_index new.of) last ∙ ap (λ (of : List ℕ). slice_index of (length old.of))
            noted.class.1 ∙ get_or-append_seam old.of class [] 0 in
            let item : x ≡ y = same_element xs i x y (ap (slice_get xs) last ∙ at) there in
            ap (slice_get new.kinds) its ∙ noted.class.2 ∙ ap (λ (each : Option ValType). Some each) (is ∙ ap (type_of (length old.of)) item
            ∙ ap (λ (n : ℕ). type_of n y) (sym last))
      ];
    }

-- the flags of the first classes stay, as a class is added
pub flags_noted : (types : List SubType) (wanted : ValType) (kind : Option ValType) (old new : Classes) (flags : List Bool)
    → IsNoted kind old new → AreFlags types wanted old.kinds flags → AreFlags types wanted new.kinds flags
flags_noted types wanted kind old new flags noted are = elim noted.kinds [
  | inl same ↦ subst (λ (kinds : List (Option ValType)). AreFlags types wanted kinds flags) (sym same) are
  | inr more ↦ record {
    few = omega (arith, are.few, ap length more ∙ length-append old.kinds (kind ∷ []));
    right = λ k found inside at.
        are.right k found inside (get_within_front old.kinds (kind ∷ []) k found (omega (arith, inside, are.few))
        (sym (ap (λ (kinds : List (Option ValType)). slice_get kinds k) more) ∙ at));
  }
]

-- one more class is tested
pub flag_pushed : (types : List SubType) (wanted : ValType) (kinds : List (Option ValType)) (flags longer : List Bool) (flag : Bool)
    (kind : Option ValType) → AreFlags types wanted kinds flags → slice_get kinds (length flags) ≡ Some kind
    → flag ≡ is_offered types wanted kind → longer ≡ flags ++ flag ∷ []
    → AreFlags types wanted kinds longer
flag_pushed types wanted kinds flags longer flag kind are at is more =
    let one : length longer ≡ length flags + 1 = ap length more ∙ length-append flags (flag ∷ []) in
    record {
      few = omega (arith, one, slice_get_within kinds (length flags) kind at);
      right = λ k found inside there. ap (λ (xs : List Bool). slice_get xs k) more ∙ elim (cases_lt k (length flags)) [
        | inl h ↦ get_front flags (flag ∷ []) k (is_offered types wanted found) (are.right k found h there)
        | inr h ↦
            let last : k ≡ length flags = omega (arith, h, inside, one) in
            let same : kind ≡ found = same_element kinds k kind found (ap (slice_get kinds) last ∙ at) there in
            get_last flags flag k last ∙ ap (λ (each : Bool). Some each) (is ∙ ap (is_offered types wanted) same)
      ];
    }

-- each item has a class that was tested
pub flag_of_each : {A : Type 0} (types : List SubType) (type_of : ℕ → A → Option ValType) (xs : List A) (d : A) (classes : Classes)
    (flags : List Bool) → AreClasses types type_of xs classes → length flags ≡ length classes.kinds → (i : ℕ) → i < length classes.of
    → slice_index classes.of i < length flags
flag_of_each types type_of xs d classes flags are all i inside =
    let at = slice_get-get_or xs i d (omega (arith, inside, are.seen)) in
    omega (
      arith,
      all,
      slice_get_within classes.kinds (slice_index classes.of i) (type_of i (get_or xs i d))
          (are.same i (get_or xs i d) inside at),
    )

-- each item adds to the count what the flag of its class says
tally : {A : Type 0} (types : List SubType) (wanted : ValType) (offer : ℕ → A → List Choice) (type_of : ℕ → A → Option ValType)
    (choice_of : ℕ → Choice) (xs : List A) (d : A) (classes : Classes) (flags : List Bool)
    → ((i : ℕ) (x : A) → offer i x ≡ offered_if (is_offered types wanted (type_of i x)) (choice_of i)) → AreClasses types type_of xs classes
    → AreFlags types wanted classes.kinds flags → IsTally (offered_before offer xs) classes.of flags
tally types wanted offer type_of choice_of xs d classes flags each classed are i flag inside at =
    let x = get_or xs i d in
    let within : i < length xs = omega (arith, inside, classed.seen) in
    let class : ℕ = slice_index classes.of i in
    let kind : slice_get classes.kinds class ≡ Some (type_of i x) = classed.same i x inside (slice_get-get_or xs i d within) in
    let right : slice_get flags class ≡ Some (is_offered types wanted (type_of i x)) =
    are.right class (type_of i x) (slice_get_within flags class flag at) kind in
    let same : is_offered types wanted (type_of i x) ≡ flag = same_element flags class (is_offered types wanted (type_of i x)) flag right
    at in
    offered_more offer xs i d within
    ∙ ap (λ (n : ℕ). offered_before offer xs i + n) (ap length (each i x) ∙ ap (λ (b : Bool). length (offered_if b (choice_of i))) same
    ∙ length_if flag (choice_of i))

-- an immutable global is offered as its type is
pub readable_same : (types : List SubType) (wanted value : ValType) (mutable : Bool) → (not mutable && is_val_below types value wanted)
    ≡ is_offered types wanted (if mutable then None else Some value)
readable_same types wanted value true = refl
readable_same types wanted value false = refl

-- a global adds what the flag of its class says
pub tally_globals : (context : Context) (wanted : ValType) (classes : Classes) (flags : List Bool)
    → AreClasses context.types (λ index global. readable global) context.globals classes → AreFlags context.types wanted classes.kinds flags
    → IsTally (offered_before (global_offers context wanted) context.globals) classes.of flags
tally_globals context wanted classes flags =
    let d : GlobalType = record { val_type = I32; mutable = false; shared = false } in
    tally context.types wanted (global_offers context wanted) (λ index global. readable global) (λ index. choice.Global index)
    context.globals d classes flags
    (λ i global. ap (λ (b : Bool). offered_if b (choice.Global i)) (readable_same context.types wanted global.val_type global.mutable))

-- a function adds what the flag of its class says
pub tally_functions : (context : Context) (wanted : ValType) (classes : Classes) (flags : List Bool)
    → AreClasses context.types (λ function index. Some (function_reference context function index)) context.funcs classes
    → AreFlags context.types wanted classes.kinds flags
    → IsTally (offered_before (function_offers context wanted) context.funcs) classes.of flags
tally_functions context wanted classes flags =
    tally context.types wanted (function_offers context wanted) (λ function index. Some (function_reference context function index))
    (λ function. choice.Function function) context.funcs 0 classes flags (λ i index. refl)

-- no item is read
pub no_classes : {A : Type 0} (types : List SubType) (type_of : ℕ → A → Option ValType) (xs : List A) (classes : Classes)
    → classes.kinds ≡ [] → classes.of ≡ [] → AreClasses types type_of xs classes
no_classes types type_of xs classes no_kinds no_items = record {
  seen = omega (arith, ap length no_items);
  few = omega (arith, ap length no_items, ap length no_kinds);
  in_range = subst (All (λ (each : Option ValType). IfSome each (IsValInRange types))) (sym no_kinds)
      (All-nil (λ (each : Option ValType). IfSome each (IsValInRange types)));
  same = λ i x inside there. absurd (omega (arith, inside, ap length no_items));
}

-- no class is tested
pub no_flags : (types : List SubType) (wanted : ValType) (kinds : List (Option ValType)) (flags : List Bool) → flags ≡ []
    → AreFlags types wanted kinds flags
no_flags types wanted kinds flags none = record {
  few = omega (arith, ap length none);
  right = λ k kind inside there. absurd (omega (arith, inside, ap length none));
}

pub one_noted : (kind : Option ValType) (old new : Classes) → IsNoted kind old new → length new.of ≡ length old.of + 1
one_noted kind old new noted = ap length noted.class.1 ∙ length-append old.of (noted.class.0 ∷ [])

-- the type that is read from a global exists
pub readable_in_range : (types : List SubType) (value : ValType) (mutable : Bool) → IsValInRange types value
    → IfSome (if mutable then None else Some value) (IsValInRange types)
readable_in_range types value true valid = tt
readable_in_range types value false valid = valid

-- the entries stay correct, as more items are read
pub entries_read : (context : Context) (old new : ReadItems) (kept : List KeptOffer)
    → ((types : List SubType) (wanted : ValType) (flags : List Bool) → AreFlags types wanted old.globals.kinds flags
    → AreFlags types wanted new.globals.kinds flags)
    → ((types : List SubType) (wanted : ValType) (flags : List Bool) → AreFlags types wanted old.funcs.kinds flags
    → AreFlags types wanted new.funcs.kinds flags) → All (IsEntry context old) kept → All (IsEntry context new) kept
entries_read context old new kept globals funcs =
    All-weaker (IsEntry context old) (IsEntry context new)
    (λ offer entry. record {
      kept = entry.kept;
      globals = globals context.types offer.wanted offer.global_flags entry.globals;
      funcs = funcs context.types offer.wanted offer.func_flags entry.funcs;
    }) kept
