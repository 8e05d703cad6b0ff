use Rattle.smith_check_instr.proofs.Common.{bare, held}
use Rattle.smith_check_operands.proofs.StepLemmas.{tried_drop}
use Rattle.smith_check_instr.proofs.control.drop_one.Goals as goal

pub returns : goal.returns
returns c = λ labels set. tried_drop (bare c.args.scope.now) labels set c.pop.result _ (held c.args.operands.now) (held c.pop.new.self)
    c.is_some.ensures c.pop.ensures
