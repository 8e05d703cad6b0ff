use Rattle.smith_types.proofs.SpaceLemmas.{end_from-last}
use Rattle.smith_types.proofs.type_space.start_after.Goals as goal

pub returns-in-len1-up : goal.returns-in-len1-up
returns-in-len1-up c = end_from-last 0 c.args.groups.now c.in-len1-up.len_at_least
