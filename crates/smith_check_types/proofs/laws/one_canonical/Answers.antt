use Rattle.smith_check_types.proofs.LawLemmas.{unique_indices}
use Rattle.smith_check_types.proofs.laws.one_canonical.Goals as goal

pub returns : goal.returns
returns c = unique_indices
