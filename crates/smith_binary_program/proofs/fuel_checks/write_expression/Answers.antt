use Rattle.smith_binary_program.proofs.Common.{joined_written, on_ok_weaker}
use Rattle.smith_binary_program.proofs.fuel_checks.write_expression.Goals as goal

pub returns-clause-writes : goal.returns-clause-writes
returns-clause-writes c = on_ok_weaker c.write_byte.result (joined_written c.in_ok-write_counted.ensures.writes) c.write_byte.ensures.writes
