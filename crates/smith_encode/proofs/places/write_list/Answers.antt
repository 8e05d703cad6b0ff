use Rattle.smith_encode.proofs.PlaceLemmas.{next_if, no_items}
use Rattle.smith_encode.proofs.places.write_list.Goals as goal

pub returns-clause-writes : goal.returns-clause-writes
returns-clause-writes g c =
    next_if _ _ _ _ _ (λ next. (next.after, next.customs.now)) c.write_next.result
    (no_items c.args.items.now c.is_empty.result c.is_empty.ensures) c.write_next.ensures.writes
