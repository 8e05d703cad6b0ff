use Rattle.smith_body_choices.proofs.Common.{as_node, as_nop, function_there, ok_like, Some, where_stands}
use Rattle.std.proofs.Common.{None}
use Rattle.smith_body_choices.proofs.ChoiceNodeLemmas.{any_call_node}
use Rattle.smith_body_choices.proofs.ChoiceLemmas.{any_call_by, any_call_none}
use Rattle.smith_body_choices.proofs.choices.choose_any_call.Goals as goal

pub returns-clause-node : goal.returns-clause-node
returns-clause-node c =
    let context = where_stands c.args.scope.now c.args.draft.now in
    let function = c.in-Some-function_of.function.now in
    let there = function_there context c.in-Some.index function c.in-Some-function_of.ensures in
    let results = c.requires.scope.results_valid there.0 function there.2 in
    let typed = any_call_node context c.args.draft.now.set.items c.in-Some.index function c.requires.scope.params_valid results there in
    ok_like _ c.plain-2.result typed (rw (c.as_slice.ensures, c.len.ensures) at c.plain-2.ensures.exact)

pub returns-in_default-clause-exact : goal.returns-in_default-clause-exact
returns-in_default-clause-exact c =
    let context = where_stands c.args.scope.now c.args.draft.now in
    ok_like _ c.plain.result (as_nop _ _ (any_call_none context c.args.u.now _ c.in_default.ensures.exact))
    c.plain.ensures.exact

pub returns-in_default-function_of-clause-exact : goal.returns-in_default-function_of-clause-exact
returns-in_default-function_of-clause-exact c =
    let context = where_stands c.args.scope.now c.args.draft.now in
    let chosen = any_call_by context c.args.u.now _ c.in-Some.index None c.in-Some.ensures.exact c.in_default-function_of.ensures in
    ok_like _ c.plain-in_default-function_of.result (as_nop _ _ chosen) c.plain-in_default-function_of.ensures.exact

pub returns-clause-exact : goal.returns-clause-exact
returns-clause-exact c =
    let context = where_stands c.args.scope.now c.args.draft.now in
    let function = c.in-Some-function_of.function.now in
    let chosen = any_call_by context c.args.u.now _ c.in-Some.index (Some function) c.in-Some.ensures.exact c.in-Some-function_of.ensures in
    ok_like _ c.plain-2.result (as_node _ _ _ chosen) (rw (c.as_slice.ensures, c.len.ensures) at c.plain-2.ensures.exact)
