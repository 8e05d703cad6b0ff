use Rattle.smith_check_operands.proofs.Common.{values}
use Rattle.smith_check_operands.specs.Scopes.{bare}
use Rattle.smith_check_operands.specs.Covers.{held}
use Rattle.smith_check_operands.proofs.ApplyLemmas.{applied}
use Rattle.smith_check_operands.proofs.frame.Operands.apply.Goals as goal

pub returns-clause-ok : goal.returns-clause-ok
returns-clause-ok c =
    applied (bare c.args.scope.now) (values c.args.operands.now) (values c.args.results.now) (held c.args.self.now)
    (held c.pop_all.new.self) (held c.push_all.new.self)
    c.if-not-pop_all.ensures c.in_ok-push_all.ensures.ok
