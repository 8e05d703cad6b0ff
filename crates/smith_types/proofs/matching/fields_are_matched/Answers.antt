use Rattle.smith_types.proofs.Common.{arith}
use Rattle.smith_types.proofs.LengthLemmas.{AreFieldsMatched-length}
use Rattle.smith_types.proofs.matching.fields_are_matched.Goals as goal

pub returns-then-a-b : goal.returns-then-a-b
returns-then-a-b c = (λ no. cc, λ matched. absurd (omega (arith, AreFieldsMatched-length _ _ _ matched)))
