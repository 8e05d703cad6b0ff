use Rattle.smith_draw_consts.proofs.Common.{choose_at, digit_count, range_at, refl}
use Rattle.smith_bytes.specs.Draws.{whole_at}
use Rattle.smith_draw_consts.specs.Constants.{constant_at, extended_at, extended_within, operator_at}
use Rattle.smith_draw_consts.specs.ConstOffers.{offers}
use Rattle.smith_draw_consts.specs.ConstNodes.{node_at}
use Rattle.smith_draw_consts.specs.ConstExprs.{expression_at, expression_alone_at}
use Rattle.smith_draw_consts.proofs.examples.draws.Goals as goal

pub returns-clause-a_sum : goal.returns-clause-a_sum
unfolding expression_alone_at expression_at node_at constant_at extended_at extended_within operator_at offers choose_at range_at whole_at
    digit_count
returns-clause-a_sum c = refl
