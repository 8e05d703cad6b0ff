use Rattle.smith_body_aggregates.proofs.Common.{where_stands}
use Rattle.smith_body_aggregates.proofs.FieldLemmas.{field_labelled, struct_get_gives}
use Rattle.smith_body_aggregates.proofs.field_reads.get_field.Goals as goal

pub returns-clause-offer : goal.returns-clause-offer
returns-clause-offer c =
    rw (c.in_ok-node.ensures.exact, c.nullable_to.ensures, c.extension_of.ensures)
    (struct_get_gives (where_stands c.args.scope.now c.args.draft.now) c.args.draft.now.set.items c.args.wanted c.arbitrary-signed.result
    c.args.from c.requires.scope.orderly c.requires.named c.requires.wanted
    (field_labelled c.args.scope.now c.args.draft.now.labels.items c.args.from.ty c.args.from.index c.args.from.field c.requires.there)
    c.requires.usable)
