use Rattle.smith_draw_consts.specs.ConstOffers.{ways_by}
use Rattle.smith_draw_consts.specs.ConstScopes.{context_of}
use Rattle.smith_draw_consts.proofs.ConstFoundLemmas.{turn_on, turn_found}
use Rattle.smith_draw_consts.proofs.offers.past_types_from.Goals as goal

pub returns-in_err-rest : goal.returns-in_err-rest
returns-in_err-rest c =
    turn_found (ways_by (context_of c.args.scope.now) c.args.wanted c.args.fuel c.args.arrays) c.types-types.result.now c.loop-index.index _
    c.loop-index.rest _ _ _ c.loop-index-test.true c.loop-index.invariant c.in_err-rest.ensures c.from_residual.ensures.1

pub loop-index-preserved : goal.loop-index-preserved
loop-index-preserved c =
    turn_on (ways_by (context_of c.args.scope.now) c.args.wanted c.args.fuel c.args.arrays) c.types-types.result.now c.loop-index.index _
    c.loop-index.rest _ _ c.loop-index-test.true c.loop-index.invariant c.in_ok-rest.ensures
