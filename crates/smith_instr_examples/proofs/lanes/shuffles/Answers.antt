use Rattle.smith_instr_examples.proofs.Common.{ℕ, ◌<◌, refl, arith, All-replicate}
use Rattle.smith_instr_examples.proofs.lanes.shuffles.Goals as goal

pub returns-clause-of_the_last_lane : goal.returns-clause-of_the_last_lane
returns-clause-of_the_last_lane c = (All-replicate (λ (lane : ℕ). lane < 32) 16 31 (omega arith), (refl, refl))
