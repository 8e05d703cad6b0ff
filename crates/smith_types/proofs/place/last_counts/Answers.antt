use Rattle.smith_types.proofs.PlaceLemmas.{last_counts-last}
use Rattle.smith_types.proofs.place.last_counts.Goals as goal

pub returns-in-len1-up : goal.returns-in-len1-up
returns-in-len1-up c = last_counts-last _ c.args.places.now _ c.in-len1-up.len_at_least
