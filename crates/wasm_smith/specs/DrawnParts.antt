-- Properties of the drawn parts, from which a module is made.
use Rattle.std.specs.Prelude.{◌≡◌, ◌<◌, ◌≤◌, Bool, false, IsTrue, length, All}
use Rattle.wasm_smith.specs.Common.{Config, Count, count_in, FixesImports, HasNoShapes, spaces_in}
use Rattle.smith_types.specs.Floats.{HasNoFloat}
use Rattle.smith_config.specs.Faults.{minimum_of}
use Rattle.wasm_smith.specs.FirstParts.{StandsWhole, IsOfEntities}
use Rattle.smith_draw_definitions.specs.Defined.{HaveNoFloats}
use Rattle.wasm_smith.specs.DrawnContents.{AreContents, HasGrantedContents, HasNoFloatContents, imported_in}
use Rattle.wasm_smith.specs.DrawnSteps.{AreFreeImports, HoldsGrounded, drawn_next}
use Rattle.smith_module_rules.specs.Refusals.{HoldsNonNullable}
use Rattle.smith_module_rules.specs.InterestingValues.{AreAll, IsInteresting32, IsInteresting64}
use Rattle.wasm_smith.specs.declared.build.parts_so_far.PartsSoFar.{PartsSoFar}

-- no drawn part has a float
pub record HasNoFloatParts (drawn : PartsSoFar) : Type 0 where
  pub types : All HasNoFloat drawn.types.types
  pub defined : HaveNoFloats (spaces_in drawn.imported.spaces) drawn.definitions
  pub contents : HasNoFloatContents drawn.contents

-- the parts are drawn for a configuration, step by step
pub record IsDrawnFor (distinct : Bool) (config : Config) (drawn : PartsSoFar) : Type 0 where
  pub whole : StandsWhole config drawn
  pub least_types : config.min_types ≤ length drawn.types.types
  pub least : (count : Count) → IsOfEntities count → minimum_of config count ≤ count_in (spaces_in drawn.imported.spaces) count
  pub free : (FixesImports config → ⊥) → AreFreeImports distinct config drawn.imported
  pub contents : AreContents config drawn.types.types (imported_in drawn.imported) (spaces_in drawn.imported.spaces)
      drawn.imported.type_size drawn.contents
  pub interesting64 : AreAll (IsInteresting64 drawn.imported.spaces.tables drawn.imported.spaces.memories) drawn.interesting_values64
  pub interesting32 : AreAll (IsInteresting32 drawn.imported.spaces.tables drawn.imported.spaces.memories) drawn.interesting_values32
  pub encodes_imports : 0 < length drawn.imported.groups → IsTrue drawn.encodes_imports
  pub floats : config.allow_floats ≡ false → HasNoShapes config → HasNoFloatParts drawn
  pub grounded : (HoldsNonNullable config → ⊥) → HoldsGrounded config (drawn_next config drawn) (spaces_in drawn.imported.spaces)
  pub granted : HasGrantedContents config (drawn_next config drawn) drawn.imported.spaces.tables drawn.contents
