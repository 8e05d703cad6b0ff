use Rattle.smith_body_aggregates.proofs.Common.{where_stands}
use Rattle.smith_body_aggregates.proofs.FieldLemmas.{array_get_gives}
use Rattle.smith_body_aggregates.proofs.field_reads.get_element.Goals as goal

pub returns-clause-offer : goal.returns-clause-offer
returns-clause-offer c =
    rw (c.in_ok-node.ensures.exact, c.nullable_to.ensures, c.extension_of-extension.ensures)
    (array_get_gives (where_stands c.args.scope.now c.args.draft.now) c.args.draft.now.set.items c.args.wanted c.arbitrary-signed.result
    c.args.from.0 c.args.from.1 c.requires.scope.orderly c.requires.named c.requires.wanted c.requires.there c.requires.usable)
