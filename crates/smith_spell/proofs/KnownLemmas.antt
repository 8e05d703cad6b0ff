-- The heap types that struct types without supertypes ground, by the facts about the types.
use Rattle.smith_spell.proofs.Common.{[], Abstract, AbstractHeapType, ap, arith, Bool, Concrete, false, length, length-append, List, refl}
use Rattle.smith_spell.proofs.Common.{slice_get, slice_get_within, Some, subst, SubType, suc, sym, true, zero, ℕ, ◌++◌, ◌+◌, ◌<◌, ◌∙◌, ◌∷◌}
use Rattle.smith_spell.proofs.Common.{◌≡◌}
use Rattle.std.proofs.Common.{IsTrue, None, ◌&&◌, ◌||◌}
use Rattle.std.specs.Prelude.{if◌then◌else◌, ◌↔◌}
use Rattle.std.specs.List.{All, list_any}
use Rattle.std.proofs.lemmas.List.Elements.{All-push}
use Rattle.std.proofs.lemmas.Option.{get_or_from_slice_get}
use Rattle.smith_types.specs.Subtyping.{is_abstract_below, IsBelow, itself}
use Rattle.smith_types.specs.Grounded.{IsGroundedByStructs}
use Rattle.smith_types.specs.Grounds.{is_ground, is_ground_of, kind_at, AreGroundKinds}
use Rattle.smith_types.specs.declared.ground.GroundKinds.{GroundKinds}
use Rattle.smith_types.specs.Syntax.value_type.AbstractHeapType.TheVariants.{Struct}
use Rattle.smith_types.specs.Syntax.value_type.HeapType.{HeapType}
use Rattle.smith_types.specs.Syntax.value_type.HeapType.TheVariants.{Exact}
use Rattle.smith_types.proofs.GroundedLemmas.{grounded_at, grounded_is, abstract_read}
use Rattle.smith_types.proofs.PathLemmas.{exact_below}
use Rattle.smith_types.proofs.WalkLemmas.{Reaches, here, up, by_cases_from_below}
use Rattle.smith_draw_types.specs.Spelling.{IsRoot}
use Rattle.smith_draw_types.proofs.SpelledSubTypeLemmas.{roots_orderly}
use Rattle.smith_spell.specs.declared.earlier.Known.{Known}
use Rattle.smith_spell.specs.Decided.{IsKnown}

any_push : {A : Type 0} (test : A → Bool) (xs : List A) (x : A) → list_any test (xs ++ x ∷ []) ≡ (list_any test xs || test x)
any_push test [] x = or_off (test x)
  where
    or_off : (b : Bool) → (b || false) ≡ b
    or_off true = refl
    or_off false = refl
any_push test (y ∷ xs) x = ap (λ b. test y || b) (any_push test xs x) ∙ or_apart (test y) (list_any test xs) (test x)
  where
    or_apart : (a b c : Bool) → (a || (b || c)) ≡ ((a || b) || c)
    or_apart true b c = refl
    or_apart false b c = refl

-- the facts with one more type
pub known_more : (types : List SubType) (known after : Known) (t : SubType) → after.count ≡ known.count + 1
    → after.has_ground ≡ (known.has_ground || is_ground_of false t) → IsKnown types known → IsRoot t → IsKnown (types ++ t ∷ []) after
known_more types known after t count grounds h root = record {
  counted = let long = length-append types (t ∷ []) in omega (arith, long, count, h.counted);
  grounds = grounds ∙ (ap (λ b. b || is_ground_of false t) h.grounds ∙ sym (any_push (is_ground_of false) types t));
  roots = All-push IsRoot types t h.roots root;
}

kinds_are : (types : List SubType) (known : Known) → IsKnown types known
    → AreGroundKinds types (record { plain = known.has_ground; shared = list_any (is_ground_of true) types })
kinds_are types known h = record { each = each }
  where
    each : (is_shared : Bool) → kind_at (record { plain = known.has_ground; shared = list_any (is_ground_of true) types }) is_shared
        ≡ list_any (is_ground_of is_shared) types
    each true = refl
    each false = h.grounds

-- an unshared abstract heap type is grounded if it is above struct types and there is a struct type
-- with defaults
pub abstract_known : (types : List SubType) (known : Known) (descriptors s : Bool) (b : AbstractHeapType) (ty : HeapType) (r : Bool)
    → IsKnown types known → ty ≡ Abstract s b → s ≡ false → r ≡ (known.has_ground && is_abstract_below Struct b)
    → IsTrue r ↔ IsGroundedByStructs types descriptors ty
abstract_known types known descriptors s b ty r h is unshared read =
    let kinds : GroundKinds = record { plain = known.has_ground; shared = list_any (is_ground_of true) types } in
    let plain : ty ≡ Abstract false b = is ∙ ap (λ (one : Bool). Abstract one b) unshared in
    abstract_read types types kinds descriptors false b ty r refl (roots_orderly types h.roots) (kinds_are types known h) plain read

root_at : (types : List SubType) (i : ℕ) (t : SubType) → All IsRoot types → slice_get types i ≡ Some t → t.supertype ≡ None
root_at types i t roots at = subst IsRoot (get_or_from_slice_get types i t t at) (roots i t (slice_get_within types i t at))

-- nothing is above a type without a supertype
alone : (types : List SubType) (i j : ℕ) → All IsRoot types → Reaches types i j → i ≡ j
alone types i j roots here = refl
alone types i j roots (up {t = t} at sup more) = let root = root_at types i t roots at in cc

created_here : (types : List SubType) (descriptors : Bool) (j : ℕ) → IsBelow types (if descriptors then Exact j else Concrete j)
    (Concrete j)
created_here types true j = exact_below types j
created_here types false j = itself

created_alone : (types : List SubType) (descriptors : Bool) (i j : ℕ) → All IsRoot types
    → IsBelow types (if descriptors then Exact i else Concrete i) (Concrete j) → i ≡ j
created_alone types true i j roots below = alone types i j roots (by_cases_from_below types (roots_orderly types roots) (Exact i)
    (Concrete j) below)
created_alone types false i j roots below = alone types i j roots (by_cases_from_below types (roots_orderly types roots) (Concrete i)
    (Concrete j) below)

stands : (types : List SubType) (j : ℕ) → j < length types → (t : SubType) × (slice_get types j ≡ Some t)
stands [] j inside = absurd (omega arith)
stands (t ∷ types) zero inside = (t, refl)
stands (t ∷ types) (suc j) inside = stands types j (omega arith)

-- a type without a supertype is grounded only by itself
pub concrete_known : (types : List SubType) (known : Known) (descriptors : Bool) (j : ℕ) (ty : HeapType) (r : Bool) → IsKnown types known
    → ty ≡ Concrete j → j < length types → ((t : SubType) → slice_get types j ≡ Some t → r ≡ is_ground t)
    → IsTrue r ↔ IsGroundedByStructs types descriptors ty
concrete_known types known descriptors j ty r h is inside read =
    let (t, at) = stands types j inside in
    subst (λ v. IsTrue r ↔ IsGroundedByStructs types descriptors v) (sym is) (
      λ on. (j, grounded_at types descriptors (Concrete j) j t at (sym (read t at) ∙ on) (created_here types descriptors j)),
      λ (i, g).
          let (u, at_u, on) = grounded_is types descriptors (Concrete j) i g in
          let same : i ≡ j = created_alone types descriptors i j h.roots g.below in
          read u (subst (λ n. slice_get types n ≡ Some u) same at_u) ∙ on,
    )
