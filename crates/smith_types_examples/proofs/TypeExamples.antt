-- Lemmas for several examples.
use Rattle.smith_types_examples.proofs.Common.{rules, false, List, [], Some, None, IsTrue, ◌≡◌, ◌∙◌, ◌∷◌, ℕ, zero, suc, lit<, refl, sym}
use Rattle.smith_types_examples.proofs.Common.{subst, arith, slice_get, All-nil, All-cons, All-head, same_Some, AbstractHeapType, Concrete}
use Rattle.smith_types_examples.proofs.Common.{Ref, SubType, Features, IsOrderly, is_abstract_below, IsBelow, IsValBelow, IsValTypeValid}
use Rattle.smith_types_examples.proofs.Common.{IsSupertypeValid, IsTypeValid, IsGroupValid, AreTypesValid, usual_features, open_type}
use Rattle.smith_types_examples.proofs.Common.{empty_struct, struct_and_below, below_itself, anyref, eqref, nullable, range, referring}
use Rattle.smith_types_examples.proofs.Common.{referring_type, in_one_group, below_abstract, by_cases_from_below, below_alone, Bool}
use Rattle.smith_types_examples.proofs.Common.{Abstract, below_declared, itself, TableType, GlobalType, ValType, Context, RefType, Offset}
use Rattle.smith_types_examples.proofs.Common.{IsRefBelow, IsOffsetValid, IsActiveElementSegment, ◌<◌, kind, shared, bottom, IsUnder}
use Rattle.smith_types_examples.proofs.Common.{IsBottomAt}
use Rattle.smith_types.specs.Syntax.value_type.AbstractHeapType.TheVariants as heap

-- abstract types, by the table
pub abstract_apart : (s r : Bool) (a b : AbstractHeapType) → ¬ ((s ≡ r) × IsTrue (is_abstract_below a b))
    → ¬ IsBelow [] (Abstract s a) (Abstract r b)
abstract_apart s r a b apart below = apart (by_cases_from_below [] (search rules) (Abstract s a) (Abstract r b) below)

pub struct_orderly : IsOrderly struct_and_below
struct_orderly = search rules

-- a type does not precede itself
pub itself_not_before : ¬ IsOrderly below_itself
itself_not_before orderly = let (before, alike) = orderly.under 0 0 (open_type (Some 0) empty_struct) refl refl in omega (arith, before)

pub lower_below : IsBelow struct_and_below (Concrete 1) (Concrete 0)
lower_below = below_declared struct_and_below 1 0 (open_type (Some 0) empty_struct) refl refl

pub upper_not_below : ¬ IsBelow struct_and_below (Concrete 0) (Concrete 1)
upper_not_below below = below_alone struct_and_below struct_orderly 0 1 (open_type None empty_struct) (lit< tt) refl
    (λ (same : 0 ≡ 1). omega (arith, same)) below

-- a type that is known is not below an abstract type, and not above one
pub not_under : (types : List SubType) (index : ℕ) (t : SubType) (s : Bool) (a : AbstractHeapType) → slice_get types index ≡ Some t
    → ¬ ((shared t ≡ s) × IsTrue (is_abstract_below (kind t) a)) → ¬ IsUnder types index s a
not_under types index t s a at apart (u, there, shares, under) =
    let same = same_Some u t (sym there ∙ at) in
    apart (subst (λ v. shared v ≡ s) same shares, subst (λ v. IsTrue (is_abstract_below (kind v) a)) same under)

pub not_over : (types : List SubType) (index : ℕ) (t : SubType) (s : Bool) (a : AbstractHeapType) → slice_get types index ≡ Some t
    → ¬ ((s ≡ shared t) × (a ≡ bottom t)) → ¬ IsBottomAt types s a index
not_over types index t s a at apart (u, there, shares, bottoms) =
    let same = same_Some u t (sym there ∙ at) in
    apart (subst (λ v. s ≡ shared v) same shares, subst (λ v. a ≡ bottom v) same bottoms)

pub eq_below_any : (types : List SubType) → IsValBelow types eqref anyref
eq_below_any types = record { heap = below_abstract types false heap.Eq heap.Any refl; nullable = λ _. refl }

-- a type that refers past its group
pub referring_alone : (features : Features) (types : List SubType) → ¬ IsTypeValid features types 1 referring_type
referring_alone features types first =
    let (on, held) = All-head (IsValTypeValid features 1) (Ref (nullable (Concrete 1))) [] first.values in
    let (enabled, inside) = held.heap_type in
    omega (arith, inside)

pub referring_after : (features : Features) → ¬ IsGroupValid features referring (range 0 1)
referring_after features valid = referring_alone features referring (valid.members 0 referring_type (omega arith) (omega arith) refl)

-- a property of two types holds for each type of their list
of_both : (P : SubType → Type 0) (t u v : SubType) (i : ℕ) → P t → P u → slice_get (t ∷ u ∷ []) i ≡ Some v → P v
of_both P t u v zero p q at = subst P (same_Some t v at) p
of_both P t u v (suc zero) p q at = subst P (same_Some u v at) q
of_both P t u v (suc (suc i)) p q at = search rules

-- two valid types in one group
pub two_valid : (t u : SubType) → IsOrderly (t ∷ u ∷ []) → IsTypeValid usual_features (t ∷ u ∷ []) 2 t
    → IsTypeValid usual_features (t ∷ u ∷ []) 2 u → AreTypesValid usual_features (in_one_group (t ∷ u ∷ []))
two_valid t u orderly first second =
    let valid = IsTypeValid usual_features (t ∷ u ∷ []) 2 in
    let group : IsGroupValid usual_features (t ∷ u ∷ []) (range 0 2) =
    record { members = λ i v low high at. of_both valid t u v i first second at; single = λ never. cc never } in
    record {
      covered = search rules;
      orderly = orderly;
      groups = All-cons (IsGroupValid usual_features (t ∷ u ∷ [])) (range 0 2) [] group
          (All-nil (IsGroupValid usual_features (t ∷ u ∷ [])));
    }

-- the second of two types is a declared subtype of the first, if that is allowed
pub below_first : (t u : SubType) → u.supertype ≡ Some 0 → IsSupertypeValid (t ∷ u ∷ []) u t → (s : ℕ) → u.supertype ≡ Some s
    → (v : SubType) × (slice_get (t ∷ u ∷ []) s ≡ Some v) × IsSupertypeValid (t ∷ u ∷ []) u v
below_first t u up valid s up' = (t, subst (λ n. slice_get (t ∷ u ∷ []) n ≡ Some t) (same_Some 0 s (sym up ∙ up')) refl, valid)

pub first_above : (t u : SubType) → u.supertype ≡ Some 0 → AreTypesValid usual_features (in_one_group (t ∷ u ∷ []))
    → IsSupertypeValid (t ∷ u ∷ []) u t
first_above t u up valid =
    let group = All-head (IsGroupValid usual_features (t ∷ u ∷ [])) (range 0 2) [] valid.groups in
    let (v, at, above) = (group.members 1 u (omega arith) (omega arith) refl).declared 0 up in
    subst (IsSupertypeValid (t ∷ u ∷ []) u) (sym (same_Some t v at)) above

-- entities that are there, with what is known of them
pub shared_at : (t : SubType) → IsTrue t.composite_type.shared → (u : SubType) × (Some t ≡ Some u) × IsTrue u.composite_type.shared
shared_at t is = (t, refl, is)

pub visible_at : (g : GlobalType) (index end : ℕ) (value : ValType) → index < end → g.mutable ≡ false → g.val_type ≡ value
    → (global : GlobalType) × (Some g ≡ Some global) × (index < end) × (global.mutable ≡ false) × (global.val_type ≡ value)
visible_at g index end value low constant is = (g, refl, low, constant, is)

pub active_first : (context : Context) (t : TableType) (more : List TableType) (ty : RefType) (offset : Offset)
    → IsRefBelow context.types ty t.element_type → IsOffsetValid context t.table64 offset → IsActiveElementSegment context (t ∷ more) ty 0
    offset
active_first context t more ty offset below valid = record { table = t; stands = refl; below = below; offset_valid = valid }

pub ruleset subtypes = (below_abstract, abstract_apart, lower_below, upper_not_below, itself)

pub ruleset examples = (subtypes, shared_at, visible_at, active_first)
