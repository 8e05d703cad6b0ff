use Rattle.smith_body_choices.proofs.Common.{function_there, where_stands}
use Rattle.smith_body_choices.proofs.ChoiceNodeLemmas.{call_for}
use Rattle.smith_body_choices.proofs.ChoiceLemmas.{call_none, call_there}
use Rattle.smith_body_choices.proofs.choices.choose_call.Goals as goal

pub returns-clause-offer : goal.returns-clause-offer
returns-clause-offer c =
    let at = c.in-Some-function_of.ensures in
    let context = where_stands c.args.scope.now c.args.draft.now in
    let there = function_there context c.in-Some.index c.in-Some-function_of.function.now at in
    let results = c.requires.scope.results_valid there.0 c.in-Some-function_of.function.now there.2 in
    rw (c.in_ok-node.ensures.exact, c.as_slice.ensures, c.saturating_sub-drops.ensures, c.len.ensures)
    (call_for context c.args.draft.now.set.items c.args.wanted c.in-Some.index c.in-Some-function_of.function.now c.requires.scope.orderly
    c.requires.scope.params_valid results c.requires.wanted c.in-Some.ensures.offered at)

pub returns-in_default-clause-exact : goal.returns-in_default-clause-exact
returns-in_default-clause-exact c = call_none (where_stands c.args.scope.now c.args.draft.now) c.args.wanted c.args.u.now _
    c.in_default.ensures.exact

pub returns-clause-exact : goal.returns-clause-exact
returns-clause-exact c =
    rw (c.in_ok-node.ensures.exact, c.as_slice.ensures, c.saturating_sub-drops.ensures, c.len.ensures)
    (call_there (where_stands c.args.scope.now c.args.draft.now) c.args.wanted c.args.u.now _ c.in-Some.index
    c.in-Some-function_of.function.now c.in-Some.ensures.exact c.in-Some-function_of.ensures)
