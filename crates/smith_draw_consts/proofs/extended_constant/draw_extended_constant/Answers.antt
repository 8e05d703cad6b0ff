use Rattle.smith_draw_consts.proofs.Common.{on_ok_weaker}
use Rattle.smith_draw_consts.proofs.PuttingLemmas.{puts_adds}
use Rattle.smith_draw_consts.proofs.extended_constant.draw_extended_constant.Goals as goal

pub returns-clause-puts : goal.returns-clause-puts
returns-clause-puts c = λ context on. on_ok_weaker c.push_reversed.result
    (λ longer. puts_adds context _ _ _ _ (c.in_ok-drawn.ensures.adds context on) (rw c.as_slice.ensures at longer))
    c.push_reversed.ensures.ok
