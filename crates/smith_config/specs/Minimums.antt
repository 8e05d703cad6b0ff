-- Configurations without minimums. A rule of this project.
use Rattle.std.specs.Prelude.{◌≡◌}
use Rattle.smith_bytes.specs.declared.error.Count.{Count}
use Rattle.smith_config.specs.declared.config.Config.{Config}
use Rattle.smith_config.specs.Faults.{minimum_of}

-- every minimum is 0
abbrev pub HasNoMinimums : Config → Type 0
HasNoMinimums config = (count : Count) → minimum_of config count ≡ 0
