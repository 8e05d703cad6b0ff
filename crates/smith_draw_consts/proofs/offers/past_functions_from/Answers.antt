use Rattle.smith_draw_consts.proofs.Common.{ap, List, ◌∙◌}
use Rattle.smith_draw_consts.specs.ConstOffers.{past, function_offers}
use Rattle.smith_draw_consts.specs.ConstScopes.{context_of}
use Rattle.smith_draw_consts.specs.declared.node_choice.Choice.{Choice}
use Rattle.smith_draw_consts.proofs.ConstFoundLemmas.{turn_on, turn_found}
use Rattle.smith_draw_consts.proofs.KnownLemmas.{function_kind_exists, function_offered}
use Rattle.smith_draw_consts.proofs.offers.past_functions_from.Goals as goal

pub is_offered-offered-requires-clause-lower : goal.is_offered-offered-requires-clause-lower
is_offered-offered-requires-clause-lower c = function_kind_exists (context_of c.args.scope.now) c.requires.scope c.loop-index.index
    c.kind_of_function-kind.result c.loop-index-test.true c.kind_of_function-kind.ensures

pub returns-in_err-rest : goal.returns-in_err-rest
returns-in_err-rest c =
    let context = context_of c.args.scope.now in
    let same = function_offered context c.args.wanted c.loop-index.index c.kind_of_function-kind.result c.is_offered-offered.result
    c.loop-index-test.true c.kind_of_function-kind.ensures c.is_offered-offered.ensures in
    turn_found (function_offers context c.args.wanted) context.funcs c.loop-index.index 0 c.loop-index.rest _ _ _ c.loop-index-test.true
    c.loop-index.invariant (c.in_err-rest.ensures ∙ ap (λ (choices : List Choice). past choices c.loop-index.rest) same)
    c.from_residual.ensures.1

pub loop-index-preserved : goal.loop-index-preserved
loop-index-preserved c =
    let context = context_of c.args.scope.now in
    let same = function_offered context c.args.wanted c.loop-index.index c.kind_of_function-kind.result c.is_offered-offered.result
    c.loop-index-test.true c.kind_of_function-kind.ensures c.is_offered-offered.ensures in
    turn_on (function_offers context c.args.wanted) context.funcs c.loop-index.index 0 c.loop-index.rest _ _ c.loop-index-test.true
    c.loop-index.invariant (c.in_ok-rest.ensures ∙ ap (λ (choices : List Choice). past choices c.loop-index.rest) same)
