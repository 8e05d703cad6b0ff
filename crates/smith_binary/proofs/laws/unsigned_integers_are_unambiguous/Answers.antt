use Rattle.smith_binary.proofs.UnambiguousLemmas.{unsigned_is_unambiguous}
use Rattle.smith_binary.proofs.laws.unsigned_integers_are_unambiguous.Goals as goal

pub returns : goal.returns
returns c = unsigned_is_unambiguous
