use Rattle.smith_instr.specs.declared.instr.Instr.TheVariants as instr
use Rattle.smith_check_instr.proofs.Common.{all_in_range, bare, held, tried_leaving, values}
use Rattle.smith_check_instr.proofs.control.return_all.Goals as goal

pub returns : goal.returns
returns c = λ labels set.
    tried_leaving (bare c.args.scope.now) labels instr.Return set (values c.args.scope.now.results.now) c.leave_with.result
    (held c.args.operands.now) (held c.leave_with.new.self)
    (record { typed = λ os rs t. t; only = λ os rs t. t }) c.leave_with.ensures

pub leave_with-requires-clause-expected : goal.leave_with-requires-clause-expected
leave_with-requires-clause-expected c = all_in_range (bare c.args.scope.now) c.args.scope.now.results.now c.requires.scope.results
