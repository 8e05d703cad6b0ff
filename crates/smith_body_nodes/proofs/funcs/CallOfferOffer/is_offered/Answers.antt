use Rattle.smith_body_nodes.specs.Scopes.{bare}
use Rattle.smith_body_nodes.proofs.OfferLemmas.{function_there}
use Rattle.smith_body_nodes.proofs.funcs.CallOfferOffer.is_offered.Goals as goal

pub is_first_below-requires-clause-results : goal.is_first_below-requires-clause-results
is_first_below-requires-clause-results c =
    let there = function_there (bare c.args.self.now.scope.now) c.args.index c.in-Some.function.now c.in-Some.ensures in
    c.requires.ready.0.results_valid there.0 c.in-Some.function.now there.2
