use Rattle.smith_draw_consts.proofs.Common.{on_ok_weaker}
use Rattle.smith_draw_consts.proofs.read_items.ReadItems.read.Goals as goal

pub returns-clause-globals : goal.returns-clause-globals
returns-clause-globals c = λ types wanted flags are. on_ok_weaker c.read_funcs.result
    (λ all. c.in_ok-read_globals.ensures.flags types wanted flags are) c.read_funcs.ensures.all
