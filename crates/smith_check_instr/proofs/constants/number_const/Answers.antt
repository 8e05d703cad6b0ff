use Rattle.smith_check_instr.proofs.Common.{bare, held, no_range, one_valid}
use Rattle.smith_check_instr.proofs.ConstantLemmas.{constant_tried, number_valid}
use Rattle.smith_check_instr.proofs.constants.number_const.Goals as goal

pub apply-requires-clause-expected : goal.apply-requires-clause-expected
apply-requires-clause-expected c = no_range c.args.scope.now.types.now.types

pub apply-requires-clause-valid : goal.apply-requires-clause-valid
apply-requires-clause-valid c =
    let context = bare c.args.scope.now in one_valid context c.args.ty (number_valid context c.args.ty c.requires.number)

pub returns-clause-ok : goal.returns-clause-ok
returns-clause-ok c = λ instruction labels set is.
    constant_tried (bare c.args.scope.now) labels set c.args.ty instruction (held c.args.operands.now) _ c.apply.result is
    c.apply.ensures.ok
