use Rattle.smith_body_aggregates.proofs.Common.{ok_like, where_stands}
use Rattle.smith_body_aggregates.proofs.FieldLemmas.{field_labelled, struct_set_gives}
use Rattle.smith_body_aggregates.proofs.field_writes.choose_struct_set.Goals as goal

pub returns-clause-node : goal.returns-clause-node
returns-clause-node c =
    ok_like _ c.plain-2.result (struct_set_gives (where_stands c.args.scope.now c.args.draft.now) c.args.draft.now.set.items
    c.in-Some.chosen c.requires.named (field_labelled c.args.scope.now c.args.draft.now.labels.items c.in-Some.chosen.ty
    c.in-Some.chosen.index c.in-Some.chosen.field c.in-Some.ensures.there) c.in-Some.ensures.valid c.in-Some.ensures.usable)
    (rw (c.nullable_to.ensures, c.unpack.ensures) at c.plain-2.ensures.exact)
