use Rattle.smith_body_aggregates.proofs.Common.{ok_like, where_stands}
use Rattle.smith_body_nodes.proofs.ChosenLemmas.{as_node, as_nop}
use Rattle.smith_body_aggregates.proofs.FieldLemmas.{init_elem_gives, init_elem_none, init_elem_some}
use Rattle.smith_body_aggregates.proofs.field_writes.init_elem_of.Goals as goal

pub returns-in_default-clause-exact : goal.returns-in_default-clause-exact
returns-in_default-clause-exact c =
    ok_like _ c.plain.result (as_nop _ _ (init_elem_none (where_stands c.args.scope.now c.args.draft.now) c.args.into c.args.u.now _
    (rw c.unpack.ensures at c.in_default.ensures.exact))) c.plain.ensures.exact

pub returns-clause-exact : goal.returns-clause-exact
returns-clause-exact c =
    ok_like _ c.plain-2.result
    (as_node _ _ _ (init_elem_some (where_stands c.args.scope.now c.args.draft.now) c.args.into c.args.u.now _ c.in-Some.segment
    (rw c.unpack.ensures at c.in-Some.ensures.exact)))
    (rw c.nullable_to-array.ensures at c.plain-2.ensures.exact)

pub returns-clause-node : goal.returns-clause-node
returns-clause-node c =
    ok_like _ c.plain-2.result (init_elem_gives (where_stands c.args.scope.now c.args.draft.now) c.args.draft.now.set.items c.args.into.0
    c.in-Some.segment c.args.into.1 c.requires.scope.orderly c.requires.named c.requires.there c.requires.usable
    (rw c.unpack.ensures at c.in-Some.ensures.offered))
    (rw c.nullable_to-array.ensures at c.plain-2.ensures.exact)
