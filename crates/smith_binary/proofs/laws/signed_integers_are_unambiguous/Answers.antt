use Rattle.smith_binary.proofs.UnambiguousLemmas.{signed_is_unambiguous}
use Rattle.smith_binary.proofs.laws.signed_integers_are_unambiguous.Goals as goal

pub returns : goal.returns
returns c = signed_is_unambiguous
