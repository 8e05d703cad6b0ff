use Rattle.smith_decode.proofs.EncoderLemmas.{module_same}
use Rattle.smith_decode.proofs.laws.modules_are_unambiguous.Goals as goal

pub returns : goal.returns
returns c = module_same
