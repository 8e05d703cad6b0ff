use Rattle.smith_types.proofs.LengthLemmas.{AreBelow-length}
use Rattle.smith_types.proofs.matching.are_below.Goals as goal

pub returns-then-a-b : goal.returns-then-a-b
returns-then-a-b c = (λ no. cc, λ below. absurd (c.if-a-b.true (AreBelow-length _ _ _ below)))
