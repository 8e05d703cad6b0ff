use Rattle.smith_draw_consts.proofs.Common.{ap, arith, false, GlobalType, I32, length-take-le, List, take, ◌∙◌}
use Rattle.smith_draw_consts.specs.ConstOffers.{past, global_offers}
use Rattle.smith_draw_consts.specs.ConstScopes.{context_of}
use Rattle.smith_draw_consts.specs.declared.node_choice.Choice.{Choice}
use Rattle.smith_draw_consts.proofs.ConstFoundLemmas.{turn_on, turn_found}
use Rattle.smith_draw_consts.proofs.KnownLemmas.{global_kind_exists, global_offered}
use Rattle.smith_draw_consts.proofs.offers.past_globals_from.Goals as goal

abbrev d : GlobalType
d = record { val_type = I32; mutable = false; shared = false }

pub is_offered-offered-requires-clause-lower : goal.is_offered-offered-requires-clause-lower
is_offered-offered-requires-clause-lower c =
    global_kind_exists (context_of c.args.scope.now) c.requires.scope d c.loop-index.index c.kind_of_global-kind.result
    (omega (arith, c.loop-index-test.true, c.requires.scope.seen)) c.kind_of_global-kind.ensures

pub returns-in_err-rest : goal.returns-in_err-rest
returns-in_err-rest c =
    let context = context_of c.args.scope.now in
    let same = global_offered context c.args.wanted d context.visible c.loop-index.index c.kind_of_global-kind.result
    c.is_offered-offered.result c.loop-index-test.true c.requires.scope.seen c.kind_of_global-kind.ensures
    c.is_offered-offered.ensures in
    turn_found (global_offers context c.args.wanted) (take context.visible context.globals) c.loop-index.index d c.loop-index.rest _ _ _
    (omega (arith, c.loop-index-test.true, length-take-le context.visible context.globals c.requires.scope.seen)) c.loop-index.invariant
    (c.in_err-rest.ensures ∙ ap (λ (choices : List Choice). past choices c.loop-index.rest) same) c.from_residual.ensures.1

pub loop-index-preserved : goal.loop-index-preserved
loop-index-preserved c =
    let context = context_of c.args.scope.now in
    let same = global_offered context c.args.wanted d context.visible c.loop-index.index c.kind_of_global-kind.result
    c.is_offered-offered.result c.loop-index-test.true c.requires.scope.seen c.kind_of_global-kind.ensures
    c.is_offered-offered.ensures in
    turn_on (global_offers context c.args.wanted) (take context.visible context.globals) c.loop-index.index d c.loop-index.rest _ _
    (omega (arith, c.loop-index-test.true, length-take-le context.visible context.globals c.requires.scope.seen)) c.loop-index.invariant
    (c.in_ok-rest.ensures ∙ ap (λ (choices : List Choice). past choices c.loop-index.rest) same)
