use Rattle.smith_decode.proofs.EncoderLemmas.{encoder_form}
use Rattle.smith_decode.proofs.laws.encoded_modules_are_modules.Goals as goal

pub returns : goal.returns
returns c = encoder_form
