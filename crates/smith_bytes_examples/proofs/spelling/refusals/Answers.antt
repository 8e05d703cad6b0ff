use Rattle.std.proofs.Common.{refl, arith}
use Rattle.smith_bytes.specs.Draws.{digit_count}
use Rattle.smith_bytes_examples.proofs.spelling.refusals.Goals as goal

pub returns-clause-second : goal.returns-clause-second
unfolding digit_count
returns-clause-second c = record { drawn = 2; later = omega arith; number = record { digits = refl; read = refl } }

pub returns-clause-last : goal.returns-clause-last
unfolding digit_count
returns-clause-last c = record { drawn = 255; later = omega arith; number = record { digits = refl; read = refl } }
