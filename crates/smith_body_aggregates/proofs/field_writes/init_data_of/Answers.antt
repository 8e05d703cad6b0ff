use Rattle.smith_body_aggregates.proofs.Common.{ok_like, where_stands}
use Rattle.smith_body_aggregates.proofs.FieldLemmas.{init_data_gives}
use Rattle.smith_body_aggregates.proofs.field_writes.init_data_of.Goals as goal

pub returns-clause-node : goal.returns-clause-node
returns-clause-node c =
    ok_like _ c.plain-2.result (init_data_gives (where_stands c.args.scope.now c.args.draft.now) c.args.draft.now.set.items c.args.into.0
    c.in-Some.segment c.args.into.1 c.requires.named c.requires.there c.requires.usable c.in-Some.ensures.below)
    (rw c.nullable_to-array.ensures at c.plain-2.ensures.exact)
