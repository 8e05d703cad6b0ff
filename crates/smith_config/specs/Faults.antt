-- The faults of a configuration. Rules of this project.
use Rattle.std.specs.Prelude.{◌≡◌, ℕ, ◌≤◌, ◌<◌, ◌^◌, false, ⊤, List, [], ◌∷◌, ◌++◌, map, All}
use Rattle.smith_bytes.specs.declared.error.Count.{Count}
use Rattle.smith_bytes.specs.declared.error.Count.TheVariants.{
  Types,
  Imports,
  Tags,
  Funcs,
  Globals,
  Exports,
  ElementSegments,
  Elements,
  DataSegments,
  Memories,
  Tables,
}
use Rattle.smith_bytes.specs.declared.error.ConfigFault.{ConfigFault}
use Rattle.smith_bytes.specs.declared.error.ConfigFault.TheVariants.{
  MinAboveMax,
  MaxTooLarge,
  Memory32Bytes,
  Memory64Bytes,
}
use Rattle.smith_config.specs.declared.config.Config.{Config}
use Rattle.smith_config.specs.InUse.{FixesImports, FixesExports}

-- the minimum number of items of a kind
abbrev pub minimum_of : Config → Count → ℕ
minimum_of config Types = config.min_types
minimum_of config Imports = config.min_imports
minimum_of config Tags = config.min_tags
minimum_of config Funcs = config.min_funcs
minimum_of config Globals = config.min_globals
minimum_of config Exports = config.min_exports
minimum_of config ElementSegments = config.min_element_segments
minimum_of config Elements = config.min_elements
minimum_of config DataSegments = config.min_data_segments
minimum_of config Memories = config.min_memories
minimum_of config Tables = config.min_tables

-- the maximum number of items of a kind
abbrev pub maximum_of : Config → Count → ℕ
maximum_of config Types = config.max_types
maximum_of config Imports = config.max_imports
maximum_of config Tags = config.max_tags
maximum_of config Funcs = config.max_funcs
maximum_of config Globals = config.max_globals
maximum_of config Exports = config.max_exports
maximum_of config ElementSegments = config.max_element_segments
maximum_of config Elements = config.max_elements
maximum_of config DataSegments = config.max_data_segments
maximum_of config Memories = config.max_memories
maximum_of config Tables = config.max_tables

-- the bounds of a count apply; the bounds of imports do not if a shape fixes the imports, and those
-- of exports do not if a shape fixes the exports or everything is exported
abbrev pub BoundsApply : Config → Count → Type 0
BoundsApply config Imports = FixesImports config → ⊥
BoundsApply config Exports = (FixesExports config → ⊥) × (config.export_everything ≡ false)
BoundsApply config count = ⊤

-- a configuration passes its check, so that a module can be drawn for it
pub record Passes (config : Config) : Type 0 where
  pub ordered : (count : Count) → BoundsApply config count → minimum_of config count ≤ maximum_of config count
  pub few : (count : Count) → maximum_of config count ≤ 2 ^ 31
  pub memory32 : config.max_memory32_bytes ≤ 2 ^ 32
  pub memory64 : config.max_memory64_bytes ≤ 2 ^ 64

-- the condition of each fault of a configuration
abbrev pub HasFault : Config → ConfigFault → Type 0
HasFault config (MinAboveMax count) = BoundsApply config count × (maximum_of config count < minimum_of config count)
HasFault config (MaxTooLarge count) = 2 ^ 31 < maximum_of config count
HasFault config Memory32Bytes = 2 ^ 32 < config.max_memory32_bytes
HasFault config Memory64Bytes = 2 ^ 64 < config.max_memory64_bytes

-- the counts of a configuration, in the order of the check
abbrev pub counts : List Count
counts =
    Types ∷ Imports ∷ Tags ∷ Funcs ∷ Globals ∷ Exports ∷ ElementSegments ∷ Elements ∷ DataSegments ∷ Memories ∷ Tables ∷ []

-- the faults of a configuration, in the order of the check
abbrev pub faults : List ConfigFault
faults = map MinAboveMax counts ++ map MaxTooLarge counts ++ Memory32Bytes ∷ Memory64Bytes ∷ []

-- the fault is the first that the configuration has
pub record IsFirstFault (config : Config) (fault : ConfigFault) : Type 0 where
  pub before : List ConfigFault
  pub after : List ConfigFault
  pub order : faults ≡ before ++ fault ∷ after
  pub earlier : All (λ other. ¬ HasFault config other) before
  pub there : HasFault config fault
