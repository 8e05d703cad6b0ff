use Rattle.smith_draw_consts.proofs.Common.{arith, on_ok_weaker}
use Rattle.smith_draw_consts.proofs.ConstStepLemmas.{drawn_length}
use Rattle.smith_draw_consts.proofs.expression.draw_length.Goals as goal

pub returns-clause-drawn : goal.returns-clause-drawn
returns-clause-drawn c = λ context. on_ok_weaker c.push.result (λ longer. drawn_length _ longer (omega arith)) c.push.ensures.ok
