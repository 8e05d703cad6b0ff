use Rattle.smith_check_branches.proofs.Common.{[], ap, bare, false≢true, func_same, FuncType, IsFuncAt, length, some_same, subst, sym, ◌∙◌}
use Rattle.smith_check_branches.proofs.Common.{◌≡◌}
use Rattle.std.proofs.lemmas.List.{nil_from_length}
use Rattle.smith_instr.specs.Contexts.{IsTag}
use Rattle.smith_check_branches.proofs.catches.tag_values.Goals as goal

pub returns-in_default-func_at : goal.returns-in_default-func_at
returns-in_default-func_at c = λ values tag.
    let (ty, at, of) = tag in
    let same : ty ≡ c.in-Some.ty = some_same ty c.in-Some.ty (sym at ∙ sym c.in-Some.ensures) in
    let thrown : FuncType = record { params = values; results = [] } in
    c.in_default-func_at.ensures thrown
    (subst (λ ts. IsFuncAt ts c.in-Some.ty thrown) (sym c.types.ensures.value)
    (subst (λ i. IsFuncAt c.args.scope.now.types.now.types i thrown) same of))

pub returns-then-is_empty : goal.returns-then-is_empty
returns-then-is_empty c =
    let types = c.args.scope.now.types.now.types in
    let function = c.in-Some-func_at.function.now in
    let ty = c.in-Some.ty in
    let there : IsFuncAt types ty function = subst (λ ts. IsFuncAt ts ty function) c.types.ensures.value c.in-Some-func_at.ensures in
    let none : function.results ≡ [] = nil_from_length function.results (c.is_empty.ensures.0 c.if-is_empty.true) in
    let without : IsFuncAt types ty (record { params = function.params; results = [] }) =
    subst (λ rs. IsFuncAt types ty (record { params = function.params; results = rs })) none there in
    subst (λ vs. IsTag (bare c.args.scope.now) c.args.tag vs) (sym c.as_slice.ensures) (ty, sym c.in-Some.ensures, without)

pub returns-else-is_empty : goal.returns-else-is_empty
returns-else-is_empty c = λ values tag.
    let types = c.args.scope.now.types.now.types in
    let function = c.in-Some-func_at.function.now in
    let ty = c.in-Some.ty in
    let there : IsFuncAt types ty function = subst (λ ts. IsFuncAt ts ty function) c.types.ensures.value c.in-Some-func_at.ensures in
    let (index, at, of) = tag in
    let same : index ≡ ty = some_same index ty (sym at ∙ sym c.in-Some.ensures) in
    let thrown : FuncType = record { params = values; results = [] } in
    let is : thrown ≡ function = func_same types ty thrown function (subst (λ i. IsFuncAt types i thrown) same of) there in
    false≢true (sym c.if-is_empty.false ∙ c.is_empty.ensures.1 (ap (λ (f : FuncType). length f.results) (sym is)))
