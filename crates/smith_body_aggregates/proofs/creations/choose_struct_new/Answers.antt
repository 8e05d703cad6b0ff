use Rattle.smith_body_aggregates.proofs.Common.{bare, struct_fields, struct_there, where_stands}
use Rattle.smith_body_aggregates.proofs.CreationLemmas.{struct_new_gives, struct_new_there}
use Rattle.smith_body_aggregates.proofs.creations.choose_struct_new.Goals as goal

pub returns-clause-exact : goal.returns-clause-exact
returns-clause-exact c =
    rw (c.node_taking-node.ensures, c.in_ok-operands.ensures.exact, c.as_slice.ensures)
    (struct_new_there (where_stands c.args.scope.now c.args.draft.now) c.args.wanted c.args.u.now _ c.in-Some.ty
    c.in-Some-struct_type_at.structure.now c.in-Some.ensures.exact c.in-Some-struct_type_at.ensures)

pub returns-clause-offer : goal.returns-clause-offer
returns-clause-offer c =
    rw (c.node_taking-node.ensures, c.in_ok-operands.ensures.exact, c.as_slice.ensures)
    (struct_new_gives (where_stands c.args.scope.now c.args.draft.now) c.args.draft.now.set.items c.args.wanted c.in-Some.ty
    c.in-Some-struct_type_at.structure.now c.requires.scope.orderly
    (struct_fields (bare c.args.scope.now) c.in-Some.ty c.in-Some-struct_type_at.structure.now.fields c.requires.scope
    (struct_there (bare c.args.scope.now).types c.in-Some.ty c.in-Some-struct_type_at.structure.now c.in-Some-struct_type_at.ensures))
    c.requires.wanted c.in-Some.ensures.offered c.in-Some-struct_type_at.ensures)
