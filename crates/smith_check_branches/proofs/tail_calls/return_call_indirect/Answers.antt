use Rattle.smith_check_branches.proofs.Common.{[], address, bare, func_same, FuncType, HasLeaving, held, IsFuncAt, Leaves, subst, sym}
use Rattle.smith_check_branches.proofs.Common.{tried_leaving, values, with_labels, ◌++◌, ◌∷◌, ◌≡◌}
use Rattle.smith_instr.specs.declared.instr.Instr.TheVariants as instr
use Rattle.smith_check_branches.proofs.CallLemmas.{params_in_range, address_in_range, function_table_at, function_table_from}
use Rattle.smith_check_branches.proofs.CallLemmas.{returns_as, never_returns, same_width}
use Rattle.smith_check_branches.proofs.tail_calls.return_call_indirect.Goals as goal

pub returns_from-requires-clause-results : goal.returns_from-requires-clause-results
returns_from-requires-clause-results c =
    c.requires.scope.results_valid c.args.ty c.in-Some-func_at.function.now
    (subst (λ ts. IsFuncAt ts c.args.ty c.in-Some-func_at.function.now) c.types.ensures.value c.in-Some-func_at.ensures)

pub leave_below-requires-clause-expected : goal.leave_below-requires-clause-expected
leave_below-requires-clause-expected c =
    params_in_range (bare c.args.scope.now) c.types.result.now c.args.ty c.in-Some-func_at.function.now c.deref.result.now
    c.requires.scope c.types.ensures.value c.in-Some-func_at.ensures c.deref.ensures

pub leave_below-requires-clause-expected_top : goal.leave_below-requires-clause-expected_top
leave_below-requires-clause-expected_top c =
    address_in_range c.args.scope.now.types.now.types c.in-Some.wide c.address_type.result c.address_type.ensures

pub returns-in_default : goal.returns-in_default
returns-in_default c = λ labels set before after covered s.
    let (function, wide, on, there, returns, leaves) = s.typed in
    c.in_default.ensures wide (function_table_from (bare c.args.scope.now) labels c.args.table wide on)

pub returns-in_default-func_at : goal.returns-in_default-func_at
returns-in_default-func_at c = λ labels set before after covered s.
    let (function, wide, on, there, returns, leaves) = s.typed in
    c.in_default-func_at.ensures function (subst (λ ts. IsFuncAt ts c.args.ty function) (sym c.types.ensures.value) there)

pub returns-then-not-returns_from : goal.returns-then-not-returns_from
returns-then-not-returns_from c = λ labels set before after covered s.
    let (function, wide, on, there, returns, leaves) = s.typed in
    never_returns (bare c.args.scope.now) labels c.types.result.now c.args.ty c.in-Some-func_at.function.now function
    c.returns_from.result c.if-not-returns_from.true c.returns_from.ensures c.types.ensures.value c.in-Some-func_at.ensures there returns

pub returns : goal.returns
returns c = λ labels set.
    let types = c.args.scope.now.types.now.types in
    let function = c.in-Some-func_at.function.now in
    let wide = c.in-Some.wide in
    let context = with_labels (bare c.args.scope.now) labels in
    let there : IsFuncAt types c.args.ty function =
    subst (λ ts. IsFuncAt ts c.args.ty function) c.types.ensures.value c.in-Some-func_at.ensures in
    let operands : function.params ++ address wide ∷ [] ≡ c.deref.result.now ++ c.address_type.result ∷ [] =
    cc (c.deref.ensures, c.address_type.ensures) in
    tried_leaving (bare c.args.scope.now) labels (instr.ReturnCallIndirect c.args.table c.args.ty) set
    (values (c.deref.result.now ++ c.address_type.result ∷ [])) c.leave_below.result (held c.args.operands.now)
    (held c.leave_below.new.operands)
    (subst (λ ps. HasLeaving context set (instr.ReturnCallIndirect c.args.table c.args.ty) (values ps)) operands (record {
      typed = λ os rs t. (
        function,
        wide,
        function_table_at (bare c.args.scope.now) labels c.args.table wide c.in-Some.ensures,
        there,
        returns_as (bare c.args.scope.now) labels function c.returns_from.result c.if-not-returns_from.false c.returns_from.ensures,
        t,
      );
      only = λ os rs t. let (other, w, on, at, returns, leaves) = t in
          subst (λ (f : FuncType). Leaves context os rs (values (f.params ++ address wide ∷ [])))
          (func_same types c.args.ty other function at there)
          (subst (λ b. Leaves context os rs (values (other.params ++ address b ∷ [])))
          (same_width (bare c.args.scope.now) labels c.args.table w wide on c.in-Some.ensures) leaves);
    })) c.leave_below.ensures
