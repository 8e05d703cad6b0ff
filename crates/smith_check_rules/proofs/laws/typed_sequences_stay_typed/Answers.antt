use Rattle.smith_check_rules.proofs.EmbeddingLemmas.{typed}
use Rattle.smith_check_rules.proofs.laws.typed_sequences_stay_typed.Goals as goal

pub returns : goal.returns
returns c = λ context sequence before after t. typed t
