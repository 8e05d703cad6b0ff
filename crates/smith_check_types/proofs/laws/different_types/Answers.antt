use Rattle.smith_check_types.proofs.LawLemmas.{own_index}
use Rattle.smith_check_types.proofs.laws.different_types.Goals as goal

pub returns : goal.returns
returns c = own_index
