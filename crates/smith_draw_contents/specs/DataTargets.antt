-- The target memories of data segments, and properties of the segments. Rules of this project.
use Rattle.std.specs.Prelude.{◌≡◌, ℕ, ◌<◌, Bool, false, IsTrue, List, [], Some, map, slice_get, slice_index_or, All}
use Rattle.smith_draw_contents.specs.Common.{address_type, Config, Context, DataSegment, Error, IncorrectFormat, Unmet}
use Rattle.smith_bytes.specs.declared.error.Error.TheVariants.{Memory}
use Rattle.smith_bytes.specs.declared.error.Count.TheVariants.{DataSegments}
use Rattle.smith_types.specs.Expressions.{IsVisible}
use Rattle.smith_types.specs.Segments.{IsDataInside, IsDataValid}
use Rattle.smith_types.specs.Syntax.entity_type.MemoryType.{MemoryType}
use Rattle.smith_draw_contents.specs.DataSegments.{Indexed, Targets, globals_for, no_memory}

-- the memories of these indices, each with its index
abbrev pub indexed : List MemoryType → List ℕ → List Indexed
indexed memories indices = map (λ index. (index, slice_index_or memories index no_memory.1)) indices

-- the memory exists at its index
abbrev pub StandsIn : List MemoryType → Indexed → Type 0
StandsIn memories one = slice_get memories one.0 ≡ Some one.1

-- an offset of this width may read each of the globals with these indices
abbrev pub TellOffsets : Context → Bool → List ℕ → Type 0
TellOffsets context wide globals = All (λ index. IsVisible context index (address_type wide)) globals

-- each memory exists at its index, an offset may read each global, and with `disallow_traps` there
-- are no globals
pub record AreTargets (config : Config) (context : Context) (memories : List MemoryType) (targets : Targets) : Type 0 where
  pub stand : All (StandsIn memories) targets.memories
  pub globals : (wide : Bool) → TellOffsets context wide (globals_for targets wide)
  pub none : IsTrue config.disallow_traps → (wide : Bool) → globals_for targets wide ≡ []
  pub bulk : IsTrue config.bulk_memory_enabled → IsTrue context.features.bulk_memory

-- a segment is valid, and with `disallow_traps` its bytes fit
pub record IsDataFit (config : Config) (context : Context) (memories : List MemoryType) (segment : DataSegment) : Type 0 where
  pub valid : IsDataValid context memories segment
  pub inside : IsTrue config.disallow_traps → IsDataInside memories segment

-- the errors of the step of data segments: lack of memory, or a minimum without bulk memory
abbrev pub MayRefuseData : Config → Error → Type 0
MayRefuseData config Memory = Unit {0}
MayRefuseData config (IncorrectFormat (Unmet DataSegments)) = (config.bulk_memory_enabled ≡ false) × (0 < config.min_data_segments)
MayRefuseData config _ = ⊥
