use Rattle.std.proofs.Common.{refl}
use Rattle.smith_bytes.specs.Draws.{digit_count, range_at}
use Rattle.smith_wrong.proofs.examples.weights.Goals as goal

pub returns-clause-first : goal.returns-clause-first
unfolding range_at digit_count
returns-clause-first c = refl

pub returns-clause-second : goal.returns-clause-second
unfolding range_at digit_count
returns-clause-second c = refl

pub returns-clause-round : goal.returns-clause-round
unfolding range_at digit_count
returns-clause-round c = refl
