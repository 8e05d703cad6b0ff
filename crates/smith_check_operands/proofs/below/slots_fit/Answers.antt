use Rattle.smith_check_operands.proofs.FitLemmas.{fit_length}
use Rattle.smith_check_operands.proofs.below.slots_fit.Goals as goal

pub returns-then-slots-expected : goal.returns-then-slots-expected
returns-then-slots-expected c = (λ never. cc, λ fit. absurd (c.if-slots-expected.true (fit_length _ _ _ fit)))
