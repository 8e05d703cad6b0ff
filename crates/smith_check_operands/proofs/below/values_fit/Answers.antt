use Rattle.smith_check_operands.proofs.EndLemmas.{matched_length}
use Rattle.smith_check_operands.proofs.below.values_fit.Goals as goal

pub returns-then-these-others : goal.returns-then-these-others
returns-then-these-others c = (λ never. cc, λ m. absurd (c.if-these-others.true (matched_length _ _ _ m)))
