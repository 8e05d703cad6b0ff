use Rattle.smith_body_choices.proofs.Common.{arith, as_node, as_nop, ok_like, where_stands}
use Rattle.smith_body_choices.proofs.ChoiceNodeLemmas.{set_node}
use Rattle.smith_body_nodes.proofs.NodeLemmas.{nop_node}
use Rattle.smith_body_choices.proofs.ChoiceLemmas.{set_none, set_there}
use Rattle.smith_body_choices.proofs.choices.choose_set.Goals as goal

pub returns-then-count-eq0-clause-node : goal.returns-then-count-eq0-clause-node
returns-then-count-eq0-clause-node c =
    ok_like _ c.plain.result (nop_node (where_stands c.args.scope.now c.args.draft.now) c.args.draft.now.set.items) c.plain.ensures.exact

pub returns-clause-node : goal.returns-clause-node
returns-clause-node c = ok_like _ c.setter.result (set_node (where_stands c.args.scope.now c.args.draft.now) c.args.draft.now.set.items
    c.int_in_range-index.result _ c.requires.scope.locals (omega (arith, c.int_in_range-index.ensures.within, c.new.ensures.end)))
    c.setter.ensures.exact

pub returns-then-count-eq0-clause-exact : goal.returns-then-count-eq0-clause-exact
returns-then-count-eq0-clause-exact c =
    ok_like _ c.plain.result
    (as_nop _ _ (set_none (where_stands c.args.scope.now c.args.draft.now) c.args.u.now
    (omega (arith, c.if-count-eq0.true, c.indexed_count-count.ensures)))) c.plain.ensures.exact

pub returns-clause-exact : goal.returns-clause-exact
returns-clause-exact c =
    let drawn = rw (c.new.ensures.start, c.new.ensures.end, c.indexed_count-count.ensures) at c.int_in_range-index.ensures.exact in
    ok_like _ c.setter.result
    (as_node _ _ _ (set_there (where_stands c.args.scope.now c.args.draft.now) c.args.u.now _ c.int_in_range-index.result _ drawn
    (omega (arith, c.int_in_range-index.ensures.within, c.new.ensures.end)))) c.setter.ensures.exact
