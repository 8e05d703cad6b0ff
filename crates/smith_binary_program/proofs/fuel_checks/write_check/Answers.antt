use Rattle.smith_binary_program.proofs.CountedLemmas.{check_memory}
use Rattle.smith_binary_program.proofs.fuel_checks.write_check.Goals as goal

pub returns-clause-memory : goal.returns-clause-memory
returns-clause-memory c = check_memory c.args.counter c.encode_instrs.result c.encode_instrs.ensures.fault
