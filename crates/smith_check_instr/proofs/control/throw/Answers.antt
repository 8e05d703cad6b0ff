use Rattle.smith_check_instr.proofs.Common.{[], All, all_in_range, ap, bare, false≢true, held, IsValInRange, some_same, subst, sym}
use Rattle.smith_check_instr.proofs.Common.{tried_leaving, values, with_labels, ◌∙◌, ◌≡◌}
use Rattle.std.proofs.Common.{MatchBool}
use Rattle.std.proofs.lemmas.List.{nil_from_length}
use Rattle.std.specs.Prelude.{length}
use Rattle.smith_types.specs.Syntax.composite_type.FuncType.{FuncType}
use Rattle.smith_types.specs.Entities.{IsFuncAt}
use Rattle.smith_instr.specs.declared.instr.Instr.TheVariants as instr
use Rattle.smith_check_rules.specs.StackTypes.{Leaves}
use Rattle.smith_check_operands.specs.Applies.{LeavesBy}
use Rattle.smith_check_operands.specs.Covers.{PopsNothing}
use Rattle.smith_check_operands.proofs.LookupLemmas.{func_same}
use Rattle.smith_check_instr.proofs.control.throw.Goals as goal

pub leave_with-requires-clause-expected : goal.leave_with-requires-clause-expected
leave_with-requires-clause-expected c =
    subst (λ ts. All (IsValInRange c.args.scope.now.types.now.types) ts) (sym c.deref.ensures)
    (all_in_range (bare c.args.scope.now) c.in-Some-func_at.function.now.params
    (c.requires.scope.params_valid c.in-Some.ty c.in-Some-func_at.function.now
    (subst (λ ts. IsFuncAt ts c.in-Some.ty c.in-Some-func_at.function.now) c.types.ensures.value c.in-Some-func_at.ensures)))

pub returns : goal.returns
returns c = λ labels set.
    let context = bare c.args.scope.now in
    let types = c.args.scope.now.types.now.types in
    let function = c.in-Some-func_at.function.now in
    let ty = c.in-Some.ty in
    let there : IsFuncAt types ty function = subst (λ ts. IsFuncAt ts ty function) c.types.ensures.value c.in-Some-func_at.ensures in
    let none : function.results ≡ [] = nil_from_length function.results (c.is_empty.ensures.0 c.if-not-is_empty.false) in
    let without : IsFuncAt types ty (record { params = function.params; results = [] }) =
    subst (λ rs. IsFuncAt types ty (record { params = function.params; results = rs })) none there in
    tried_leaving context labels (instr.Throw c.args.tag) set (values function.params) c.leave_with.result (held c.args.operands.now)
    (held c.leave_with.new.self)
    (record {
      typed = λ os rs t. (function.params, (ty, sym c.in-Some.ensures, without), t);
      only = λ os rs t. let (taken, tag, leaves) = t in let (index, at, of) = tag in
          let same : index ≡ ty = some_same index ty (sym at ∙ sym c.in-Some.ensures) in
          let is = func_same types ty (record { params = taken; results = [] }) function
          (subst (λ i. IsFuncAt types i (record { params = taken; results = [] })) same of) there in
          subst (λ ts. Leaves (with_labels context labels) os rs (values ts)) (ap (λ (f : FuncType). f.params) is) leaves;
    })
    (subst (λ ts. MatchBool c.leave_with.result
    (LeavesBy context (values ts) (held c.args.operands.now) (held c.leave_with.new.self))
    (PopsNothing context (values ts) (held c.args.operands.now))) c.deref.ensures c.leave_with.ensures)

pub returns-in_default-func_at : goal.returns-in_default-func_at
returns-in_default-func_at c = λ labels set before after covered s.
    let (taken, tag, leaves) = s.typed in
    let (ty, at, of) = tag in
    let same : ty ≡ c.in-Some.ty = some_same ty c.in-Some.ty (sym at ∙ sym c.in-Some.ensures) in
    let thrown : FuncType = record { params = taken; results = [] } in
    c.in_default-func_at.ensures thrown
    (subst (λ ts. IsFuncAt ts c.in-Some.ty thrown) (sym c.types.ensures.value)
    (subst (λ i. IsFuncAt c.args.scope.now.types.now.types i thrown) same of))

pub returns-then-not-is_empty : goal.returns-then-not-is_empty
returns-then-not-is_empty c = λ labels set before after covered s.
    let types = c.args.scope.now.types.now.types in
    let function = c.in-Some-func_at.function.now in
    let ty = c.in-Some.ty in
    let there : IsFuncAt types ty function = subst (λ ts. IsFuncAt ts ty function) c.types.ensures.value c.in-Some-func_at.ensures in
    let (taken, tag, leaves) = s.typed in
    let (index, at, of) = tag in
    let same : index ≡ ty = some_same index ty (sym at ∙ sym c.in-Some.ensures) in
    let thrown : FuncType = record { params = taken; results = [] } in
    let is : thrown ≡ function = func_same types ty thrown function (subst (λ i. IsFuncAt types i thrown) same of) there in
    false≢true (sym c.if-not-is_empty.true ∙ c.is_empty.ensures.1 (ap (λ (f : FuncType). length f.results) (sym is)))
