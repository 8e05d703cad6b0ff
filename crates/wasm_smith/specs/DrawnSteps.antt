-- The state after each step of drawing a module. Rules of this project.
use Rattle.std.specs.Prelude.{◌≡◌, ℕ, ◌*◌, ◌≤◌, Bool, false, IsTrue, is_some, IfSome, List, [], length, map, All}
use Rattle.std.specs.List.{AllZip}
use Rattle.wasm_smith.specs.Common.{AreExportsValid, Config, Context, Count, count_in, EntitySpaces, FixesImports, flattened, HasNoShapes}
use Rattle.wasm_smith.specs.Common.{Shape, space_of, spaces_in}
use Rattle.smith_types.specs.Exports.{AreDistinct}
use Rattle.smith_types.specs.Floats.{HasNoFloat}
use Rattle.smith_types.specs.Grown.{Extends, AreSpacesGrown}
use Rattle.smith_types.specs.Syntax.imports.Import.{Import}
use Rattle.smith_config.specs.Faults.{minimum_of}
use Rattle.smith_config.specs.InUse.{shapes_of}
use Rattle.smith_config.specs.Shapes.{most_listed, shape_imports, shape_spaces, shape_types}
use Rattle.smith_draw_types.specs.HeldFields.{HoldsUngroundedField}
use Rattle.smith_draw_types.specs.FuncSizes.{HasFewValues, IsSmall}
use Rattle.smith_config.specs.Granted.{AreTypesGranted, HasGroundedElements, HasGroundedValue}
use Rattle.smith_draw_imports.specs.Imported.{HasNoImports}
use Rattle.smith_module_rules.specs.ShapeImports.{kept_groups, taken_from}
use Rattle.smith_draw_imports.specs.declared.imports_so_far.Imported.{Imported}
use Rattle.wasm_smith.specs.FirstParts.{ModuleSoFar, StandsSoFar, StandsWhole, IsOfEntities}
use Rattle.smith_draw_definitions.specs.Defined.{HaveNoFloats, drawn_beside, nothing_defined}
use Rattle.smith_module_rules.specs.Refusals.{HoldsNonNullable}
use Rattle.smith_module_rules.specs.ShapesKept.{IsSameExport}
use Rattle.wasm_smith.specs.declared.build.parts_so_far.PartsSoFar.{PartsSoFar}

-- the context of the next draw: the types and functions so far
abbrev pub drawn_next : Config → PartsSoFar → Context
drawn_next config drawn = drawn_beside config drawn.types.types (spaces_in drawn.imported.spaces) drawn.definitions

-- the fields, parameters and results of types, the elements of tables and the values of globals are
-- granted
pub record HoldsGrounded (config : Config) (context : Context) (spaces : EntitySpaces) : Type 0 where
  pub fields : HoldsUngroundedField config context → ⊥
  pub types : AreTypesGranted config context
  pub element_types : All (HasGroundedElements config context) spaces.tables
  pub globals : All (HasGroundedValue config context) spaces.globals

-- function types are small, and so is what imports add to the type size, as without shapes
pub record HasSmallSizes (config : Config) (drawn : PartsSoFar) : Type 0 where
  pub types : All IsSmall drawn.types.types
  pub imports : drawn.imported.type_size ≤ 42 * config.max_imports

-- no type, no global and no constant is a float
pub record HasNoFloatSoFar (drawn : PartsSoFar) : Type 0 where
  pub types : All HasNoFloat drawn.types.types
  pub defined : HaveNoFloats (spaces_in drawn.imported.spaces) drawn.definitions

-- more may be drawn over the parts so far: function types have no more values than a shape may
-- list, value types are granted unless a shape has others, and the exports so far are valid
pub record MayGoOn (config : Config) (drawn : PartsSoFar) : Type 0 where
  pub so_far : StandsSoFar config drawn
  pub few_values : All (HasFewValues most_listed) drawn.types.types
  pub grounded : (HoldsNonNullable config → ⊥) → HoldsGrounded config (drawn_next config drawn) (spaces_in drawn.imported.spaces)
  pub exports : AreExportsValid (spaces_in drawn.imported.spaces) drawn.contents.exports
  pub least_types : config.min_types ≤ length drawn.types.types

-- only types exist
pub record HasTypesAlone (drawn : PartsSoFar) : Type 0 where
  pub imports : HasNoImports drawn.imported
  pub nothing : drawn.definitions ≡ nothing_defined
  pub small : All IsSmall drawn.types.types

-- the state after types are drawn at the end of the first parts
pub record AreTypesDrawn (config : Config) (drawn : PartsSoFar) : Type 0 where
  pub may : MayGoOn config drawn
  pub free : (FixesImports config → ⊥) → HasTypesAlone drawn
  pub floats : config.allow_floats ≡ false → HasNoShapes config → All HasNoFloat drawn.types.types

-- the state after imports
pub record AreImportsDrawn (config : Config) (drawn : PartsSoFar) : Type 0 where
  pub may : MayGoOn config drawn
  pub small : HasNoShapes config → HasSmallSizes config drawn
  pub floats : config.allow_floats ≡ false → HasNoShapes config → HasNoFloatSoFar drawn

-- imports that no shape fixes: with `distinct` their names are distinct, and there are at least the
-- minimum
pub record AreFreeImports (distinct : Bool) (config : Config) (imported : Imported) : Type 0 where
  pub apart : IsTrue distinct → AreDistinct {A = List ℕ × List ℕ} (map (λ (one : Import). (one.«module», one.name))
      (flattened imported.groups))
  pub least : config.min_imports ≤ imported.count

-- the state after entities are defined: the minimum of each kind is met
pub record AreEntitiesDrawn (config : Config) (drawn : PartsSoFar) : Type 0 where
  pub may : MayGoOn config drawn
  pub least : (count : Count) → IsOfEntities count → minimum_of config count ≤ count_in (spaces_in drawn.imported.spaces) count
  pub small : HasNoShapes config → HasSmallSizes config drawn
  pub floats : config.allow_floats ≡ false → HasNoShapes config → HasNoFloatSoFar drawn

-- the state after exports are made
pub record AreExportsDrawn (config : Config) (drawn : PartsSoFar) : Type 0 where
  pub whole : StandsWhole config drawn
  pub few_values : All (HasFewValues most_listed) drawn.types.types
  pub grounded : (HoldsNonNullable config → ⊥) → HoldsGrounded config (drawn_next config drawn) (spaces_in drawn.imported.spaces)
  pub least_types : config.min_types ≤ length drawn.types.types
  pub least : (count : Count) → IsOfEntities count → minimum_of config count ≤ count_in (spaces_in drawn.imported.spaces) count
  pub small : HasNoShapes config → HasSmallSizes config drawn
  pub floats : config.allow_floats ≡ false → HasNoShapes config → HasNoFloatSoFar drawn

-- the imports are unchanged
pub record HasSameImports (old new : Imported) : Type 0 where
  pub groups : new.groups ≡ old.groups
  pub count : new.count ≡ old.count
  pub type_size : new.type_size ≡ old.type_size

-- `new` extends `old`: types and entities are appended, and imports and exports that a shape fixes
-- are unchanged
pub record IsBeyond (config : Config) (old new : ModuleSoFar) : Type 0 where
  pub types : Extends old.types.types new.types.types
  pub groups : Extends old.types.groups new.types.groups
  pub imports : FixesImports config → new.groups ≡ old.groups
  pub spaces : AreSpacesGrown old.spaces new.spaces
  pub exports : IsTrue (is_some config.module_shape) → new.exports ≡ old.exports

-- the types and groups of a shape come first
pub record BeginsWithTypes (shape : Shape) (so_far : ModuleSoFar) : Type 0 where
  pub types : Extends (shape_types shape) so_far.types.types
  pub groups : Extends (space_of shape.groups).groups so_far.types.groups

-- a module shape is kept so far
pub record KeepsModuleSoFar (config : Config) (shape : Shape) (so_far : ModuleSoFar) : Type 0 where
  pub types : BeginsWithTypes shape so_far
  pub imports : so_far.groups ≡ kept_groups config shape
  pub exports : AllZip (IsSameExport (λ mine yours. mine ≡ yours) so_far.spaces (shape_spaces shape)) so_far.exports shape.exports

-- the imports so far are the available imports that the bytes choose and that fit
pub record KeepsImportsSoFar (config : Config) (bytes : List ℕ) (shape : Shape) (so_far : ModuleSoFar) : Type 0 where
  pub types : BeginsWithTypes shape so_far
  pub imports : flattened so_far.groups ≡ taken_from config (shape_types shape) bytes 0 [] (shape_imports shape)

-- the shapes that a module begins with are kept so far
pub record KeepsShapesSoFar (config : Config) (bytes : List ℕ) (so_far : ModuleSoFar) : Type 0 where
  pub module_shape : IfSome (shapes_of config).module_shape (λ shape. KeepsModuleSoFar config shape so_far)
  pub available_imports : IfSome (shapes_of config).available_imports (λ shape. KeepsImportsSoFar config bytes shape so_far)
