use Rattle.smith_body_nodes.specs.Scopes.{where_stands}
use Rattle.smith_body_calls.proofs.CallLemmas.{return_call_gives, return_call_none, return_call_there}
use Rattle.smith_body_nodes.proofs.OfferLemmas.{function_there}
use Rattle.smith_body_calls.proofs.tail_calls.choose_return_call.Goals as goal

pub returns-in_default-clause-exact : goal.returns-in_default-clause-exact
returns-in_default-clause-exact c = return_call_none (where_stands c.args.scope.now c.args.draft.now) c.args.u.now _
    c.in_default.ensures.exact

pub returns-clause-exact : goal.returns-clause-exact
returns-clause-exact c =
    rw (c.in_ok-node.ensures.exact, c.as_slice.ensures)
    (return_call_there (where_stands c.args.scope.now c.args.draft.now) c.args.u.now _ c.in-Some.index c.in-Some-function_of.function.now
    c.in-Some.ensures.exact c.in-Some-function_of.ensures)

pub returns-clause-offer : goal.returns-clause-offer
returns-clause-offer c = λ values valid.
    let context = where_stands c.args.scope.now c.args.draft.now in
    let function = c.in-Some-function_of.function.now in
    let there = function_there context c.in-Some.index function c.in-Some-function_of.ensures in
    rw (c.in_ok-node.ensures.exact, c.as_slice.ensures)
    (return_call_gives context c.args.draft.now.set.items function values c.in-Some.index c.requires.scope.orderly
    (c.requires.scope.params_valid there.0 function there.2) (c.requires.scope.results_valid there.0 function there.2)
    c.in-Some.ensures.offered c.in-Some-function_of.ensures valid)
