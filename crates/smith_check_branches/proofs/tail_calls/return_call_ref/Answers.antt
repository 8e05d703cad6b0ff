use Rattle.smith_check_branches.proofs.Common.{[], bare, Concrete, func_same, FuncType, HasLeaving, held, IsFuncAt, Leaves, nullable_to}
use Rattle.smith_check_branches.proofs.Common.{subst, sym, tried_leaving, values, with_labels, ◌++◌, ◌∷◌, ◌≡◌}
use Rattle.smith_instr.specs.declared.instr.Instr.TheVariants as instr
use Rattle.smith_check_branches.proofs.CallLemmas.{params_in_range, reference_in_range, returns_as, never_returns}
use Rattle.smith_check_branches.proofs.tail_calls.return_call_ref.Goals as goal

pub returns_from-requires-clause-results : goal.returns_from-requires-clause-results
returns_from-requires-clause-results c =
    c.requires.scope.results_valid c.args.ty c.in-Some.function.now
    (subst (λ ts. IsFuncAt ts c.args.ty c.in-Some.function.now) c.types.ensures.value c.in-Some.ensures)

pub leave_below-requires-clause-expected : goal.leave_below-requires-clause-expected
leave_below-requires-clause-expected c =
    params_in_range (bare c.args.scope.now) c.types.result.now c.args.ty c.in-Some.function.now c.deref.result.now c.requires.scope
    c.types.ensures.value c.in-Some.ensures c.deref.ensures

pub leave_below-requires-clause-expected_top : goal.leave_below-requires-clause-expected_top
leave_below-requires-clause-expected_top c =
    reference_in_range (bare c.args.scope.now) c.types.result.now c.args.ty c.in-Some.function.now c.nullable_to.result
    c.types.ensures.value c.in-Some.ensures c.nullable_to.ensures

pub returns-in_default : goal.returns-in_default
returns-in_default c = λ labels set before after covered s.
    let (function, there, returns, leaves) = s.typed in
    c.in_default.ensures function (subst (λ ts. IsFuncAt ts c.args.ty function) (sym c.types.ensures.value) there)

pub returns-then-not-returns_from : goal.returns-then-not-returns_from
returns-then-not-returns_from c = λ labels set before after covered s.
    let (function, there, returns, leaves) = s.typed in
    never_returns (bare c.args.scope.now) labels c.types.result.now c.args.ty c.in-Some.function.now function c.returns_from.result
    c.if-not-returns_from.true c.returns_from.ensures c.types.ensures.value c.in-Some.ensures there returns

pub returns : goal.returns
returns c = λ labels set.
    let types = c.args.scope.now.types.now.types in
    let function = c.in-Some.function.now in
    let callee = nullable_to (Concrete c.args.ty) in
    let context = with_labels (bare c.args.scope.now) labels in
    let there : IsFuncAt types c.args.ty function =
    subst (λ ts. IsFuncAt ts c.args.ty function) c.types.ensures.value c.in-Some.ensures in
    let operands : function.params ++ callee ∷ [] ≡ c.deref.result.now ++ c.nullable_to.result ∷ [] =
    cc (c.deref.ensures, c.nullable_to.ensures) in
    tried_leaving (bare c.args.scope.now) labels (instr.ReturnCallRef c.args.ty) set
    (values (c.deref.result.now ++ c.nullable_to.result ∷ [])) c.leave_below.result (held c.args.operands.now)
    (held c.leave_below.new.operands)
    (subst (λ ps. HasLeaving context set (instr.ReturnCallRef c.args.ty) (values ps)) operands (record {
      typed = λ os rs t. (
        function,
        there,
        returns_as (bare c.args.scope.now) labels function c.returns_from.result c.if-not-returns_from.false c.returns_from.ensures,
        t,
      );
      only = λ os rs t. let (other, at, returns, leaves) = t in
          subst (λ (f : FuncType). Leaves context os rs (values (f.params ++ callee ∷ [])))
          (func_same types c.args.ty other function at there) leaves;
    })) c.leave_below.ensures
