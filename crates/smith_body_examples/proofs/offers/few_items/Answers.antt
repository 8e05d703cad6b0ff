use Rattle.smith_body_examples.proofs.OneChunkLemmas.{one_chunk}
use Rattle.smith_body_examples.proofs.offers.few_items.Goals as goal

pub returns : goal.returns
returns c = one_chunk
