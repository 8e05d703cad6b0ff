use Rattle.smith_body_choices.proofs.Common.{ok_by, where_stands, ◌∙◌}
use Rattle.smith_body_choices.specs.declared.families.EndingFamily.TheVariants as ending
use Rattle.smith_body_choices.proofs.ChoiceLemmas.{ending_by}
use Rattle.smith_body_choices.proofs.ChoiceNodeLemmas.{stop_node}
use Rattle.smith_body_choices.proofs.choices.choose_ending.Goals as goal

pub returns-in_ok-node-in-Leaving-clause-exact : goal.returns-in_ok-node-in-Leaving-clause-exact
returns-in_ok-node-in-Leaving-clause-exact c =
    (ending_by (where_stands c.args.scope.now c.args.draft.now) c.args.u.now _ c.ending_families.result.now c.choose.result ending.Leaving
    c.ending_families.ensures (c.choose.ensures.exact ending.Leaving) c.in-Leaving.is) ∙ c.in_ok-node-in-Leaving.ensures.exact

pub returns-in-TailCall-clause-exact : goal.returns-in-TailCall-clause-exact
returns-in-TailCall-clause-exact c = ok_by c.choose_tail_call.result _ _ _
    (ending_by (where_stands c.args.scope.now c.args.draft.now) c.args.u.now _ c.ending_families.result.now c.choose.result ending.TailCall
    c.ending_families.ensures (c.choose.ensures.exact ending.Leaving) c.in-TailCall.is) c.choose_tail_call.ensures.exact

pub returns-in-Throw-clause-exact : goal.returns-in-Throw-clause-exact
returns-in-Throw-clause-exact c = ok_by c.choose_any_throw.result _ _ _
    (ending_by (where_stands c.args.scope.now c.args.draft.now) c.args.u.now _ c.ending_families.result.now c.choose.result ending.Throw
    c.ending_families.ensures (c.choose.ensures.exact ending.Leaving) c.in-Throw.is) c.choose_any_throw.ensures.exact

pub returns-in_ok-node-in-Table-clause-exact : goal.returns-in_ok-node-in-Table-clause-exact
returns-in_ok-node-in-Table-clause-exact c =
    (ending_by (where_stands c.args.scope.now c.args.draft.now) c.args.u.now _ c.ending_families.result.now c.choose.result ending.Table
    c.ending_families.ensures (c.choose.ensures.exact ending.Leaving) c.in-Table.is) ∙ c.in_ok-node-in-Table.ensures.exact

pub returns-in_ok-node-in-Unreachable-clause-exact : goal.returns-in_ok-node-in-Unreachable-clause-exact
returns-in_ok-node-in-Unreachable-clause-exact c = rw c.in_ok-node-in-Unreachable.ensures.exact
    (ending_by (where_stands c.args.scope.now c.args.draft.now) c.args.u.now _ c.ending_families.result.now c.choose.result
    ending.Unreachable c.ending_families.ensures (c.choose.ensures.exact ending.Leaving) c.in-Unreachable.is)

pub returns-in_ok-node-in-Unreachable-clause-offer : goal.returns-in_ok-node-in-Unreachable-clause-offer
returns-in_ok-node-in-Unreachable-clause-offer c = λ values valid.
    rw c.in_ok-node-in-Unreachable.ensures.exact (stop_node (where_stands c.args.scope.now c.args.draft.now) c.args.draft.now.set.items
    values valid)
