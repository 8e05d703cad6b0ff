use Rattle.smith_types_examples.proofs.Common.{◌≡◌, ◌<◌, ◌∙◌, ℕ, zero, suc, Some, None, refl, sym, ap, subst, arith, slice_get, same_Some}
use Rattle.smith_types_examples.proofs.Common.{SubType, kind, IsAlike, open_type, empty_struct, plain_func, struct_and_below}
use Rattle.smith_types.specs.Syntax.value_type.AbstractHeapType.TheVariants as heap
use Rattle.smith_types_examples.proofs.grouped_types.following.Goals as goal

stands_before : (i s : ℕ) (t : SubType) → slice_get struct_and_below i ≡ Some t → t.supertype ≡ Some s
    → (s < i) × ((u : SubType) × (slice_get struct_and_below s ≡ Some u) × IsAlike t u)
stands_before zero s t at sup =
    let same : open_type None empty_struct ≡ t = same_Some (open_type None empty_struct) t at in
    let never : None ≡ Some s = ap (λ (x : SubType). x.supertype) same ∙ sup in
    cc never
stands_before (suc zero) s t at sup =
    let same : open_type (Some 0) empty_struct ≡ t = same_Some (open_type (Some 0) empty_struct) t at in
    let is : 0 ≡ s = same_Some 0 s (ap (λ (x : SubType). x.supertype) same ∙ sup) in
    let alike : IsAlike (open_type (Some 0) empty_struct) (open_type None empty_struct) = record { kind = refl; shared = refl } in
    subst (λ n. (n < 1) × ((u : SubType) × (slice_get struct_and_below n ≡ Some u) × IsAlike t u)) is
    (omega arith, (open_type None empty_struct, refl, subst (λ (x : SubType). IsAlike x (open_type None empty_struct)) same alike))
stands_before (suc (suc i)) s t at sup = cc

pub returns-clause-supertype_before : goal.returns-clause-supertype_before
returns-clause-supertype_before c = record { under = stands_before }

pub returns-clause-its_own_supertype : goal.returns-clause-its_own_supertype
returns-clause-its_own_supertype c = λ following.
    let (before, above) = following.under 0 0 (open_type (Some 0) empty_struct) refl refl in
    omega (arith, before)

pub returns-clause-supertype_past_the_end : goal.returns-clause-supertype_past_the_end
returns-clause-supertype_past_the_end c = λ following.
    let (before, above) = following.under 0 7 (open_type (Some 7) empty_struct) refl refl in
    omega (arith, before)

pub returns-clause-of_another_kind : goal.returns-clause-of_another_kind
returns-clause-of_another_kind c = λ following.
    let (before, (u, there, alike)) = following.under 1 0 (open_type (Some 0) empty_struct) refl refl in
    let same : open_type None plain_func ≡ u = same_Some (open_type None plain_func) u there in
    let never : heap.Struct ≡ heap.Func = alike.kind ∙ ap kind (sym same) in
    cc never
