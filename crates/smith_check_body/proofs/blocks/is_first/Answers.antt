use Rattle.smith_check_body.proofs.blocks.is_first.Goals as goal

pub returns-in-Block : goal.returns-in-Block
returns-in-Block c = rw c.in-Block.is (λ h. h)

pub returns-in-Loop : goal.returns-in-Loop
returns-in-Loop c = rw c.in-Loop.is (λ h. h)
