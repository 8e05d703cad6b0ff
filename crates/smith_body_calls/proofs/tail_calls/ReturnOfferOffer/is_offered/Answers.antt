use Rattle.smith_body_nodes.specs.Scopes.{bare}
use Rattle.smith_body_nodes.proofs.OfferLemmas.{function_there}
use Rattle.smith_body_calls.proofs.tail_calls.ReturnOfferOffer.is_offered.Goals as goal

pub is_fit-requires-clause-results : goal.is_fit-requires-clause-results
is_fit-requires-clause-results c =
    let there = function_there (bare c.args.self.now.scope.now) c.args.index c.in-Some.function.now c.in-Some.ensures in
    c.requires.ready.results_valid there.0 c.in-Some.function.now there.2
