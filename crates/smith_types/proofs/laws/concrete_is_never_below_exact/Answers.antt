use Rattle.smith_types.proofs.WalkLemmas.{concrete_not_below_exact}
use Rattle.smith_types.proofs.laws.concrete_is_never_below_exact.Goals as goal

pub returns : goal.returns
returns c = concrete_not_below_exact
