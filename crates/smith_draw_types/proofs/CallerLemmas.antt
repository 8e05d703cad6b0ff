-- Conditions on the callers of draws, derived from facts that they have.
use Rattle.smith_draw_types.proofs.Common.{Config}
use Rattle.smith_config.specs.Faults.{Passes}
use Rattle.smith_draw_types.specs.Callers.{PassesButImports}

-- a configuration that passes its check does so without the pair of `min_imports` and `max_imports`
pub passes_but_imports : (config : Config) → Passes config → PassesButImports config
passes_but_imports config passes = (config.min_imports, passes)
