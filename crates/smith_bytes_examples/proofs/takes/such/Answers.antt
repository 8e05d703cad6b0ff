use Rattle.std.proofs.Common.{refl, arith}
use Rattle.smith_bytes.specs.Draws.{digit_count}
use Rattle.smith_bytes_examples.proofs.takes.such.Goals as goal

pub returns-clause-both : goal.returns-clause-both
unfolding digit_count
returns-clause-both c = record { holds = omega arith; spelled = record { digits = refl; read = refl } }
