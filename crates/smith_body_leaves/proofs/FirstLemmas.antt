-- The first of the offered items.
use Rattle.smith_body_leaves.proofs.Common.{[], ap, BodyContext, Bool, both, CompositeInnerType, false, FieldType, is_created_below}
use Rattle.smith_body_leaves.proofs.Common.{is_some, IsArrayAt, length, List, None, offered, Option, refl, slice_get, Some, subst, SubType}
use Rattle.smith_body_leaves.proofs.Common.{sym, true, ValType, ℕ, ◌&&◌, ◌<◌, ◌∙◌, ◌∷◌, ◌≡◌}
use Rattle.std.proofs.Common.{◌-◌}
use Rattle.std.proofs.Math.Nat.{zero-mod}
use Rattle.std.proofs.Math.Seq.{take-nil}
use Rattle.smith_bytes.specs.Draws.{choose_at, range_at}
use Rattle.smith_body_leaves.specs.FirstCreated.{first_offered, is_created_empty}
use Rattle.smith_body_nodes.specs.IndexedTypes.{element_in, element_of}
use Rattle.smith_body_nodes.proofs.IndexedTypeLemmas.{array_is}
use Rattle.smith_body_nodes.proofs.OfferedLemmas.{offered_place}

-- without bytes the first number is drawn
least : (hi : ℕ) → (range_at 0 hi []).0 ≡ 0
unfolding range_at
least hi = rw (take-nil, zero-mod) refl

-- without bytes the first item is chosen
pub chosen_first : (items : List ℕ) (bytes left : List ℕ) (o : Option ℕ) → bytes ≡ [] → choose_at items bytes ≡ (o, left)
    → o ≡ slice_get items 0
unfolding choose_at
chosen_first items bytes left o empty drawn =
    let drawn' : choose_at items [] ≡ (o, left) = rw empty at drawn in
    sym (ap (λ (d : Option ℕ × List ℕ). d.0) drawn') ∙ ap (λ (place : ℕ). slice_get items place) (least (length items - 1))

nothing_first : (items : List ℕ) (place index : ℕ) → slice_get items 0 ≡ None → slice_get items place ≡ Some index → ⊥
nothing_first [] place index none at = cc
nothing_first (item ∷ items) place index none at = cc

-- without a first item no item is offered
pub none_offered : (test : ℕ → Bool) (size index : ℕ) → first_offered test size ≡ None → index < size → test index ≡ true → ⊥
none_offered test size index none inside is = nothing_first (offered test size) (length (offered test index)) index none
    (offered_place test size index inside is)

pub both_are : (a b : Bool) → a ≡ true → b ≡ true → (a && b) ≡ true
both_are true b p q = q
both_are false b p q = p

-- an array type that is offered
element_held : (types : List SubType) (ty : ℕ) (o : Option FieldType) → element_in (slice_get types ty) ≡ o → is_some o ≡ true
    → (element : FieldType) × IsArrayAt types ty element
element_held types ty (Some element) at is = (element, array_is types ty element at)
element_held types ty None at is = cc

pub array_created : (context : BodyContext) (wanted : ValType) (ty : ℕ) → is_created_empty context wanted ty ≡ true
    → (is_created_below context wanted ty ≡ true) × ((element : FieldType) × IsArrayAt context.types ty element)
array_created context wanted ty is =
    let (below, held) = both (is_created_below context wanted ty) (is_some (element_in (slice_get context.types ty))) is in
    (below, element_held context.types ty (element_in (slice_get context.types ty)) refl held)

pub array_offered : (context : BodyContext) (wanted : ValType) (ty : ℕ) (element : FieldType) → IsArrayAt context.types ty element
    → is_created_below context wanted ty ≡ true → is_created_empty context wanted ty ≡ true
array_offered context wanted ty element (t, at, is) below =
    let there : is_some (element_of t.composite_type.inner) ≡ true = subst (λ (x : CompositeInnerType). is_some (element_of x) ≡ true)
    (sym is) refl in
    both_are (is_created_below context wanted ty) (is_some (element_in (slice_get context.types ty))) below
    (subst (λ (o : Option SubType). is_some (element_in o) ≡ true) (sym at) there)
