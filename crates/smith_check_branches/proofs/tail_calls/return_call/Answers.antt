use Rattle.smith_check_branches.proofs.Common.{bare, func_same, FuncType, HasLeaving, held, IsFuncAt, Leaves, some_same, subst, sym}
use Rattle.smith_check_branches.proofs.Common.{tried_leaving, values, with_labels, ◌∙◌, ◌≡◌}
use Rattle.smith_instr.specs.declared.instr.Instr.TheVariants as instr
use Rattle.smith_check_branches.proofs.CallLemmas.{params_in_range, returns_as, never_returns}
use Rattle.smith_check_branches.proofs.tail_calls.return_call.Goals as goal

pub returns_from-requires-clause-results : goal.returns_from-requires-clause-results
returns_from-requires-clause-results c =
    c.requires.scope.results_valid c.in-Some.ty c.in-Some-func_at.function.now
    (subst (λ ts. IsFuncAt ts c.in-Some.ty c.in-Some-func_at.function.now) c.types.ensures.value c.in-Some-func_at.ensures)

pub leave_with-requires-clause-expected : goal.leave_with-requires-clause-expected
leave_with-requires-clause-expected c =
    params_in_range (bare c.args.scope.now) c.types.result.now c.in-Some.ty c.in-Some-func_at.function.now c.deref.result.now
    c.requires.scope c.types.ensures.value c.in-Some-func_at.ensures c.deref.ensures

pub returns-in_default-func_at : goal.returns-in_default-func_at
returns-in_default-func_at c = λ labels set before after covered s.
    let (function, named, returns, leaves) = s.typed in
    let (ty, at, of) = named in
    let same : ty ≡ c.in-Some.ty = some_same ty c.in-Some.ty (sym at ∙ sym c.in-Some.ensures) in
    c.in_default-func_at.ensures function
    (subst (λ ts. IsFuncAt ts c.in-Some.ty function) (sym c.types.ensures.value)
    (subst (λ i. IsFuncAt c.args.scope.now.types.now.types i function) same of))

pub returns-then-not-returns_from : goal.returns-then-not-returns_from
returns-then-not-returns_from c = λ labels set before after covered s.
    let (function, named, returns, leaves) = s.typed in
    let (ty, at, of) = named in
    let same : ty ≡ c.in-Some.ty = some_same ty c.in-Some.ty (sym at ∙ sym c.in-Some.ensures) in
    never_returns (bare c.args.scope.now) labels c.types.result.now c.in-Some.ty c.in-Some-func_at.function.now function
    c.returns_from.result c.if-not-returns_from.true c.returns_from.ensures c.types.ensures.value c.in-Some-func_at.ensures
    (subst (λ i. IsFuncAt c.args.scope.now.types.now.types i function) same of) returns

pub returns : goal.returns
returns c = λ labels set.
    let types = c.args.scope.now.types.now.types in
    let function = c.in-Some-func_at.function.now in
    let context = with_labels (bare c.args.scope.now) labels in
    let there : IsFuncAt types c.in-Some.ty function =
    subst (λ ts. IsFuncAt ts c.in-Some.ty function) c.types.ensures.value c.in-Some-func_at.ensures in
    tried_leaving (bare c.args.scope.now) labels (instr.ReturnCall c.args.index) set (values c.deref.result.now) c.leave_with.result
    (held c.args.operands.now) (held c.leave_with.new.self)
    (subst (λ ps. HasLeaving context set (instr.ReturnCall c.args.index) (values ps)) (sym c.deref.ensures) (record {
      typed = λ os rs t. (
        function,
        (c.in-Some.ty, sym c.in-Some.ensures, there),
        returns_as (bare c.args.scope.now) labels function c.returns_from.result c.if-not-returns_from.false c.returns_from.ensures,
        t,
      );
      only = λ os rs t. let (other, named, returns, leaves) = t in
          let (ty, at, of) = named in
          let same : ty ≡ c.in-Some.ty = some_same ty c.in-Some.ty (sym at ∙ sym c.in-Some.ensures) in
          subst (λ (f : FuncType). Leaves context os rs (values f.params))
          (func_same types c.in-Some.ty other function (subst (λ i. IsFuncAt types i other) same of) there) leaves;
    })) c.leave_with.ensures
