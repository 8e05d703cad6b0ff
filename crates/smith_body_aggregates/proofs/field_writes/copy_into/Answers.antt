use Rattle.smith_body_aggregates.proofs.Common.{ok_like, where_stands}
use Rattle.smith_body_aggregates.proofs.FieldLemmas.{array_copy_gives}
use Rattle.smith_body_aggregates.proofs.field_writes.copy_into.Goals as goal

pub returns-clause-node : goal.returns-clause-node
returns-clause-node c =
    ok_like _ c.plain-2.result (array_copy_gives (where_stands c.args.scope.now c.args.draft.now) c.args.draft.now.set.items c.args.into.0
    c.in-Some.out.0 c.args.into.1 c.in-Some.out.1 c.requires.scope.orderly c.requires.named c.requires.there c.in-Some.ensures.there
    c.requires.mutable c.in-Some.ensures.usable)
    (rw (c.nullable_to.ensures, c.nullable_to-2.ensures) at c.plain-2.ensures.exact)
