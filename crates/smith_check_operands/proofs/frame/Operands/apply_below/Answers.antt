use Rattle.smith_check_operands.specs.Scopes.{bare}
use Rattle.smith_check_operands.specs.Covers.{held}
use Rattle.smith_check_operands.proofs.StepLemmas.{applied_below_result, nothing_above_values}
use Rattle.smith_check_operands.proofs.frame.Operands.apply_below.Goals as goal

pub returns-then-not-pop_all-clause-ok : goal.returns-then-not-pop_all-clause-ok
returns-then-not-pop_all-clause-ok c =
    nothing_above_values (bare c.args.scope.now) c.args.operands.now c.args.top.now (held c.args.self.now) c.if-not-pop_all.ensures

pub returns-clause-ok : goal.returns-clause-ok
returns-clause-ok c =
    applied_below_result (bare c.args.scope.now) c.args.operands.now c.args.top.now c.args.results.now (held c.args.self.now)
    (held c.pop_all.new.self) (held c.apply.new.self) c.apply.result
    c.if-not-pop_all.ensures c.apply.ensures.ok
