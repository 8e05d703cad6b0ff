use Rattle.smith_types.proofs.GroundGrowthLemmas.{context_grounded, imports_grounded}
use Rattle.smith_types.proofs.laws.grounded_survives_growth.Goals as goal

pub returns : goal.returns
returns c = record { context = context_grounded; imports = imports_grounded }
