-- The grounded types of a family and of a kind, by the lists of the types that functions ground.
use Rattle.smith_draw_types.proofs.Common.{[], ap, arith, Array, below_declared, Bool, CompositeInnerType, Concrete, Context, directly_read}
use Rattle.smith_draw_types.proofs.Common.{false, filter, Func, FuncGrounds, indices_where, is_directly_below, is_directly_below_at}
use Rattle.smith_draw_types.proofs.Common.{is_shared_as, IsGroundedByStructs, IsOrderly, length, List, map, refl, slice_get_within, Struct}
use Rattle.smith_draw_types.proofs.Common.{sym, true, ℕ, ◌&&◌, ◌<◌, ◌∙◌, ◌∷◌, ◌≡◌}
use Rattle.smith_types.specs.Syntax.value_type.AbstractHeapType.TheVariants as heap
use Rattle.smith_types.specs.declared.ground.Ground.{Ground}
use Rattle.smith_types.specs.FuncGrounds.{is_noted}
use Rattle.smith_types.proofs.MarkLemmas.{said_inside}
use Rattle.smith_draw_types.specs.FunctionFamilies.{is_noted_below, is_noted_function}
use Rattle.smith_draw_types.specs.Grounding.{any_from, function_grounds, is_grounded}
use Rattle.smith_draw_types.specs.KeptGrounds.{IsRecordOver}
use Rattle.smith_draw_types.specs.Offered.{is_of_kind, is_kind, of_kinds, offered_direct_subtypes}
use Rattle.smith_draw_types.proofs.EarlyGroundLemmas.{by_early}
use Rattle.smith_draw_types.proofs.FunctionListLemmas.{kind_read}
use Rattle.smith_draw_types.proofs.GroundedKindLemmas.{both, picks, one_kind_passing, structs_above, grounded_struct}
use Rattle.smith_draw_types.proofs.GroundingLemmas.{by_functions}
use Rattle.smith_draw_types.proofs.OfferedLemmas.{supertype_is}

-- a type that no struct type grounds is grounded exactly if the record of functions notes it
noted_grounds : (context : Context) (grounds : FuncGrounds) → IsOrderly context.types → IsRecordOver context grounds → (j : ℕ)
    → j < length context.types → (IsGroundedByStructs context.types context.features.custom_descriptors (Concrete j) → ⊥)
    → is_grounded context (Concrete j) ≡ is_noted grounds (Concrete j)
noted_grounds context grounds orderly record_over j inside none =
    let noted = is_noted grounds (Concrete j) in
    let decided : noted ≡ any_from (function_grounds context (Concrete j)) 0 context.funcs =
    by_early context orderly grounds record_over (Concrete j) noted inside (λ within. record_over.right.each (Concrete j) within)
    (λ on.
    let marked = said_inside (λ (ground : Ground). ground.below) grounds.marks.items j on in
    omega (arith, marked, record_over.right.long)) in
    sym (by_functions context (Concrete j) noted orderly none decided)

-- two tests that agree where a third holds
tests_agree : (a b c : Bool) → (a ≡ true → b ≡ c) → (a && b) ≡ (c && a)
tests_agree true true c same = let e = same refl in rw (sym e) refl
tests_agree true false c same = let e = same refl in rw (sym e) refl
tests_agree false b true same = refl
tests_agree false b false same = refl

-- the listed direct subtypes are the grounded ones, if no struct type grounds the type
pub direct_listed : (context : Context) (grounds : FuncGrounds) (index : ℕ) (indices : List ℕ) → IsOrderly context.types
    → IsRecordOver context grounds → (IsGroundedByStructs context.types context.features.custom_descriptors (Concrete index) → ⊥)
    → indices ≡ indices_where (is_noted_below context.types grounds index) 0 (length context.types)
    → filter (is_grounded context) (offered_direct_subtypes context.types index) ≡ map Concrete indices
direct_listed context grounds index indices orderly record_over none listed =
    let types = context.types in
    let descriptors = context.features.custom_descriptors in
    let g = is_grounded context in
    picks g (is_directly_below index) (is_noted_below types grounds index) types
    (λ k t at.
    let read : is_directly_below_at types index k ≡ is_directly_below index t = directly_read types index k t at in
    tests_agree (is_directly_below index t) (g (Concrete k)) (is_noted grounds (Concrete k))
    (λ direct.
    let below = below_declared types k index t at (supertype_is index t.supertype direct) in
    noted_grounds context grounds orderly record_over k (slice_get_within types k t at)
    (λ structs. none (structs_above types descriptors (Concrete k) (Concrete index) below structs)))
    ∙ ap (λ (b : Bool). is_noted grounds (Concrete k) && b) (sym read))
    ∙ ap (map Concrete) (sym listed)

never_both : (inner : CompositeInnerType) → is_of_kind heap.Func inner ≡ true → is_of_kind heap.Struct inner ≡ true → ⊥
never_both (Array element) function structure = cc
never_both (Func signature) function structure = cc
never_both (Struct fields) function structure = cc

-- the listed function types are the grounded ones
pub functions_listed : (context : Context) (grounds : FuncGrounds) (s : Bool) (indices : List ℕ) → IsOrderly context.types
    → IsRecordOver context grounds → indices ≡ indices_where (is_noted_function context.types grounds s) 0 (length context.types)
    → filter (is_grounded context) (of_kinds context.types s (heap.Func ∷ [])) ≡ map Concrete indices
functions_listed context grounds s indices orderly record_over listed =
    let types = context.types in
    let descriptors = context.features.custom_descriptors in
    let g = is_grounded context in
    one_kind_passing g types s heap.Func (map Concrete indices)
    (picks g (is_kind s heap.Func) (is_noted_function types grounds s) types
    (λ k t at.
    tests_agree (is_kind s heap.Func t) (g (Concrete k)) (is_noted grounds (Concrete k))
    (λ is.
    let function = (both (is_shared_as s t) (is_of_kind heap.Func t.composite_type.inner) is).1 in
    noted_grounds context grounds orderly record_over k (slice_get_within types k t at)
    (λ structs. never_both t.composite_type.inner function (grounded_struct types descriptors k t orderly at structs)))
    ∙ ap (λ (b : Bool). is_noted grounds (Concrete k) && b) (sym (kind_read types s heap.Func k t at)))
    ∙ ap (map Concrete) (sym listed))
