-- Conditions on the callers of draws. Rules of this project.
use Rattle.std.specs.Prelude.{ℕ}
use Rattle.smith_draw_types.specs.Common.{Config}
use Rattle.smith_config.specs.Faults.{Passes}

-- a configuration passes its check with some value of `min_imports`
abbrev pub PassesButImports : Config → Type 0
PassesButImports config = (least : ℕ) × Passes (record config { min_imports = least })
