-- The globals and functions whose types have been read.
use Rattle.smith_draw_consts.proofs.Common.{[], ap, arith, Bool, cases_lt, Context, function_reference, get_or, GlobalType, IfSome, inl}
use Rattle.smith_draw_consts.proofs.Common.{inr, IsValInRange, IsValTypeValid, length, List, Option, slice_get, slice_get-get_or}
use Rattle.smith_draw_consts.proofs.Common.{slice_get_within, slice_index, Some, subst, SubType, sym, take, ValType, ℕ, ◌++◌, ◌+◌, ◌<◌, ◌∙◌}
use Rattle.smith_draw_consts.proofs.Common.{◌∷◌, ◌≡◌, ◌≤◌}
use Rattle.std.proofs.Common.{Bor}
use Rattle.std.specs.Prelude.{nat_le}
use Rattle.std.proofs.lemmas.List.{get_or-take, length-append}
use Rattle.std.proofs.lemmas.List.Elements.{All-get_or}
use Rattle.smith_validity.proofs.ReferredTypeLemmas.{value_in_range}
use Rattle.smith_draw_consts.specs.ConstOffers.{offered_if, global_offers, function_offers}
use Rattle.smith_draw_consts.specs.ConstScopes.{IsScope}
use Rattle.smith_draw_consts.specs.KeptOffers.{AreClasses, AreRecorded, IsKnown, IsWhole, counts_of, is_offered, readable}
use Rattle.smith_draw_consts.specs.declared.classes.Classes.{Classes}
use Rattle.smith_draw_consts.specs.declared.kept_offers.KeptOffer.{KeptOffer}
use Rattle.smith_draw_consts.specs.declared.knowledge.Known.{Known}
use Rattle.smith_draw_consts.specs.declared.knowledge.Known.TheVariants.{Few, Many}
use Rattle.smith_draw_consts.specs.declared.node_choice.Choice.TheVariants as choice
use Rattle.smith_draw_consts.proofs.ClassLemmas.{get_front, get_last, readable_in_range, readable_same, same_element}
use Rattle.smith_draw_types.proofs.GroundingLemmas.{within_reference}

-- one more item is recorded
pub one_recorded : {A B : Type 0} (record_of : ℕ → A → B) (xs : List A) (x : A) (one : B) (records longer : List B)
    → AreRecorded record_of xs records → slice_get xs (length records) ≡ Some x → one ≡ record_of (length records) x
    → longer ≡ records ++ one ∷ [] → AreRecorded record_of xs longer
one_recorded {A} {B} record_of xs x one records longer are at is more =
    let next : length longer ≡ length records + 1 = ap length more ∙ length-append records (one ∷ []) in
    record {
      few = omega (arith, next, slice_get_within xs (length records) x at);
      same = λ i y inside there. ap (λ (all : List B). slice_get all i) more ∙ elim (cases_lt i (length records)) [
        | inl h ↦ get_front records (one ∷ []) i (record_of i y) (are.same i y h there)
        | inr h ↦
            let last : i ≡ length records = omega (arith, h, inside, next) in
            let item : x ≡ y = same_element xs i x y (ap (slice_get xs) last ∙ at) there in
            get_last records one i last ∙ ap (λ (each : B). Some each) (is ∙ ap (record_of (length records)) item
            ∙ ap (λ (n : ℕ). record_of n y) (sym last))
      ];
    }

-- the class of an item exists
pub class_exists : {A : Type 0} (types : List SubType) (kind_of : ℕ → A → Option ValType) (xs : List A) (d : A) (classes : Classes) (i : ℕ)
    → AreClasses types kind_of xs classes → i < length classes.of → slice_index classes.of i < length classes.kinds
class_exists types kind_of xs d classes i are inside =
    let at = slice_get-get_or xs i d (omega (arith, inside, are.seen)) in
    slice_get_within classes.kinds (slice_index classes.of i) (kind_of i (get_or xs i d)) (are.same i (get_or xs i d) inside at)

module _ (context : Context) (scope : IsScope context) where
  -- the type that is read from a global exists
  pub global_kind_exists : (d : GlobalType) (index : ℕ) (kind : Option ValType) → index < length context.globals
      → ((global : GlobalType) → slice_get context.globals index ≡ Some global → kind ≡ readable global)
      → IfSome kind (IsValInRange context.types)
  global_kind_exists d index kind inside is =
      let global : GlobalType = get_or context.globals index d in
      let valid : IsValTypeValid context.features (length context.types) global.val_type =
      All-get_or (λ (each : GlobalType). IsValTypeValid context.features (length context.types) each.val_type) context.globals index d
      inside scope.globals in
      subst (λ (each : Option ValType). IfSome each (IsValInRange context.types))
      (sym (is global (slice_get-get_or context.globals index d inside)))
      (readable_in_range context.types global.val_type global.mutable (value_in_range context.features context.types global.val_type valid))

  -- the type of a reference to a function exists
  pub function_kind_exists : (index : ℕ) (kind : Option ValType) → index < length context.funcs
      → ((type : ℕ) → slice_get context.funcs index ≡ Some type → kind ≡ Some (function_reference context index type))
      → IfSome kind (IsValInRange context.types)
  function_kind_exists index kind inside is =
      let type : ℕ = get_or context.funcs index 0 in
      let valid : type < length context.types = All-get_or (λ (each : ℕ). each < length context.types) context.funcs index 0 inside
      scope.funcs in
      subst (λ (each : Option ValType). IfSome each (IsValInRange context.types))
      (sym (is type (slice_get-get_or context.funcs index 0 inside)))
      (within_reference context.types type (nat_le context.imported_funcs index) context.features.custom_descriptors valid)

-- a visible global is offered as its type is
pub global_offered : (context : Context) (wanted : ValType) (d : GlobalType) (visible index : ℕ) (kind : Option ValType) (offered : Bool)
    → index < visible → visible ≤ length context.globals → ((global : GlobalType) → slice_get context.globals index ≡ Some global
    → kind ≡ readable global) → offered ≡ is_offered context.types wanted kind
    → offered_if offered (choice.Global index) ≡ global_offers context wanted index (get_or (take visible context.globals) index d)
global_offered context wanted d visible index kind offered near inside is test =
    let global : GlobalType = get_or context.globals index d in
    let same : kind ≡ readable global = is global (slice_get-get_or context.globals index d (omega (arith, near, inside))) in
    ap (λ (b : Bool). offered_if b (choice.Global index)) (test ∙ ap (is_offered context.types wanted) same
    ∙ sym (readable_same context.types wanted global.val_type global.mutable))
    ∙ ap (global_offers context wanted index) (sym (get_or-take visible context.globals index d near))

-- a function is offered as the type of a reference to it is
pub function_offered : (context : Context) (wanted : ValType) (index : ℕ) (kind : Option ValType) (offered : Bool)
    → index < length context.funcs → ((type : ℕ) → slice_get context.funcs index ≡ Some type
    → kind ≡ Some (function_reference context index type)) → offered ≡ is_offered context.types wanted kind
    → offered_if offered (choice.Function index) ≡ function_offers context wanted index (get_or context.funcs index 0)
function_offered context wanted index kind offered inside is test =
    ap (λ (b : Bool). offered_if b (choice.Function index))
    (test ∙ ap (is_offered context.types wanted) (is (get_or context.funcs index 0) (slice_get-get_or context.funcs index 0 inside)))

-- the counts of what is known are of all that is offered
pub counts_whole : (context : Context) (wanted : ValType) (known : Known) (counts : Bor KeptOffer) → IsKnown context wanted known
    → Some counts ≡ counts_of known → IsWhole context wanted counts.now
counts_whole context wanted (Few items) counts known is = cc
counts_whole context wanted (Many items all) counts known is = let same : all ≡ counts = cc in
    subst (λ (each : Bor KeptOffer). IsWhole context wanted each.now) same known.1
