use Rattle.std.proofs.Common.{◌+◌}
use Rattle.smith_binary.proofs.numbers.+write_padded.Given as goal

abbrev pub decreases-write_padded : goal.decreases-write_padded
decreases-write_padded l = l.value + l.least
