use Rattle.smith_check_operands.proofs.Common.{values}
use Rattle.smith_check_operands.specs.Scopes.{bare}
use Rattle.smith_check_operands.specs.Covers.{held}
use Rattle.smith_check_operands.proofs.StepLemmas.{left}
use Rattle.smith_check_operands.proofs.frame.Operands.leave_with.Goals as goal

pub returns : goal.returns
returns c =
    left (bare c.args.scope.now) (values c.args.taken.now) (held c.args.self.now) (held c.pop_all.new.self) (held c.leave.new.self)
    c.if-not-pop_all.ensures c.leave.ensures.known c.leave.ensures.dead
