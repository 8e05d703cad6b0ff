use Rattle.smith_check_rules.proofs.EmbeddingLemmas.{body_typed}
use Rattle.smith_check_rules.proofs.laws.typed_bodies_stay_typed.Goals as goal

pub returns : goal.returns
returns c = body_typed
