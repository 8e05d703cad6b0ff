-- The first parts of a module, from the shapes in use. Rules of this project.
use Rattle.std.specs.Prelude.{◌≡◌, ℕ, ◌+◌, ◌≤◌, max, false, ◌⊎◌, ⊤, is_some, IfSome, IsSomeAnd, List, [], Option, Some, None, length}
use Rattle.std.specs.Prelude.{sum_by, All, Result, Ok, if◌then◌else◌}
use Rattle.std.specs.List.{AllZip, Contains}
use Rattle.wasm_smith.specs.Common.{AreExportsValid, Config, Count, count_in, Definitions, EntitySpaces, Error, Export, features_of}
use Rattle.wasm_smith.specs.Common.{FixesImports, flattened, imported_spaces, Shape, space_of, spaces_in, SubType, TableType}
use Rattle.smith_bytes.specs.declared.error.Error.TheVariants as errors
use Rattle.smith_types.specs.Imports.{IsImportsValid}
use Rattle.smith_types.specs.Sizes.{size_in}
use Rattle.smith_types.specs.GroupedTypes.{GroupedTypes}
use Rattle.smith_types.specs.Syntax.entity_type.MemoryType.{MemoryType}
use Rattle.smith_types.specs.Syntax.imports.Import.{Import}
use Rattle.smith_types.specs.Syntax.imports.Imports.{Imports}
use Rattle.smith_config.specs.Faults.{maximum_of}
use Rattle.smith_config.specs.Shapes.{shape_imports, shape_spaces, shape_types}
use Rattle.smith_draw_shape_imports.specs.AvailableImports.{AreImportsWithin, available_at}
use Rattle.smith_draw_imports.specs.Imported.{HasNoImports}
use Rattle.smith_module_rules.specs.ShapeImports.{kept_groups, sizes_of, taken_from}
use Rattle.smith_bytes.specs.declared.error.Count.TheVariants as counts
use Rattle.smith_config.specs.EntityBounds.{IsTableWithin, IsMemoryWithin}
use Rattle.smith_module_rules.specs.Bounds.{items_of_export_shape, items_of_shapes, items_of_module_shape, of_shapes}
use Rattle.smith_draw_definitions.specs.Defined.{StandsAfter, drawn_beside, nothing_defined}
use Rattle.smith_draw_definitions.specs.Required.{MayRefuseRequired}
use Rattle.smith_draw_definitions.specs.RequiredExports.{Required, required_at, then_with}
use Rattle.smith_module_rules.specs.ShapesKept.{IsSameExport}
use Rattle.wasm_smith.specs.declared.build.parts_so_far.PartsSoFar.{PartsSoFar}

-- the state of a module: types, groups of imports, index spaces, their definitions, and exports
pub record ModuleSoFar : Type 0 where
  pub types : GroupedTypes
  pub groups : List Imports
  pub spaces : EntitySpaces
  pub defined : Definitions
  pub exports : List Export

-- the state with the parts of a module
abbrev pub module_so_far : PartsSoFar → ModuleSoFar
module_so_far drawn = record {
  types = drawn.types;
  groups = drawn.imported.groups;
  spaces = spaces_in drawn.imported.spaces;
  defined = drawn.definitions;
  exports = drawn.contents.exports;
}

-- the empty state
abbrev pub nothing_so_far : ModuleSoFar
nothing_so_far = record {
  types = record { types = []; groups = [] };
  groups = [];
  spaces = imported_spaces [];
  defined = nothing_defined;
  exports = [];
}

pub record HasNothing (drawn : PartsSoFar) : Type 0 where
  pub so_far : module_so_far drawn ≡ nothing_so_far
  pub imports : HasNoImports drawn.imported

-- the state from a module shape: its types, its imports, and its exports, with an entity defined
-- for each
unfoldable pub first_parts_by_module_at : Config → Shape → List ℕ → Result (ModuleSoFar × List ℕ) Error
first_parts_by_module_at config shape bytes =
    then_with
    (λ (made : Required). record {
      types = made.types;
      groups = kept_groups config shape;
      spaces = made.spaces;
      defined = made.defined;
      exports = made.exports;
    })
    (required_at false config shape (space_of shape.groups) (imported_spaces (shape_imports shape)) nothing_defined bytes)

-- the state from available imports: the types of the shape, and the imports that the bytes choose
-- and that fit
unfoldable pub first_parts_by_imports_at : Config → Shape → List ℕ → ModuleSoFar × List ℕ
first_parts_by_imports_at config shape bytes =
    let taken = available_at config shape bytes in (
      record {
        types = space_of shape.groups;
        groups = taken.0;
        spaces = imported_spaces (flattened taken.0);
        defined = nothing_defined;
        exports = [];
      },
      taken.1,
    )

-- the state from the shapes in use: a module shape, else available imports, else the empty state
abbrev pub first_parts_for : Config → Option Shape → Option Shape → List ℕ → Result (ModuleSoFar × List ℕ) Error
first_parts_for config (Some shape) available bytes = first_parts_by_module_at config shape bytes
first_parts_for config None (Some shape) bytes = Ok (first_parts_by_imports_at config shape bytes)
first_parts_for config None None bytes = Ok (nothing_so_far, bytes)

unfoldable pub first_parts_at : Config → List ℕ → Result (ModuleSoFar × List ℕ) Error
first_parts_at config bytes = first_parts_for config config.module_shape config.available_imports bytes

-- the valid parts of a module from a module shape
pub record AreFirstPartsByModule (config : Config) (shape : Shape) (drawn : PartsSoFar) : Type 0 where
  pub types : drawn.types ≡ space_of shape.groups
  pub groups : drawn.imported.groups ≡ kept_groups config shape
  pub flat : flattened drawn.imported.groups ≡ shape_imports shape
  pub count : drawn.imported.count ≡ length (shape_imports shape)
  pub type_size : drawn.imported.type_size ≡ 0
  pub valid : All (IsImportsValid (features_of config)) drawn.imported.groups
  pub stands : StandsAfter config (imported_spaces (shape_imports shape)) drawn.types (spaces_in drawn.imported.spaces) drawn.definitions
  pub counted : (count : Count) → (count ≡ counts.Types → ⊥) → (count ≡ counts.Imports → ⊥)
      → count_in (spaces_in drawn.imported.spaces) count ≡ items_of_module_shape count shape
  pub tables : All (Contains (shape_spaces shape).tables) drawn.imported.spaces.tables
  pub memories : All (Contains (shape_spaces shape).memories) drawn.imported.spaces.memories
  pub globals : All (Contains (shape_spaces shape).globals) drawn.imported.spaces.globals
  pub exports : AllZip (IsSameExport (λ mine yours. mine ≡ yours) (spaces_in drawn.imported.spaces) (shape_spaces shape))
      drawn.contents.exports shape.exports
  pub exports_valid : AreExportsValid (spaces_in drawn.imported.spaces) drawn.contents.exports

-- the valid parts of a module from available imports, within the bounds
pub record AreFirstPartsByImports (config : Config) (shape : Shape) (bytes : List ℕ) (drawn : PartsSoFar) : Type 0 where
  pub types : drawn.types ≡ space_of shape.groups
  pub kept : flattened drawn.imported.groups ≡ taken_from config (shape_types shape) bytes 0 [] (shape_imports shape)
  pub count : drawn.imported.count ≡ length (flattened drawn.imported.groups)
  pub type_size : drawn.imported.type_size ≡ sizes_of (shape_types shape) (flattened drawn.imported.groups)
  pub valid : All (IsImportsValid (features_of config)) drawn.imported.groups
  pub stands : StandsAfter config (imported_spaces (flattened drawn.imported.groups)) drawn.types (spaces_in drawn.imported.spaces)
      drawn.definitions
  pub within : AreImportsWithin config (shape_types shape) (flattened drawn.imported.groups)
  pub tables : All (Contains (shape_spaces shape).tables) drawn.imported.spaces.tables
  pub memories : All (Contains (shape_spaces shape).memories) drawn.imported.spaces.memories
  pub globals : All (Contains (shape_spaces shape).globals) drawn.imported.spaces.globals
  pub spaces : spaces_in drawn.imported.spaces ≡ imported_spaces (flattened drawn.imported.groups)
  pub exports : drawn.contents.exports ≡ []

-- the parts of a module from the shapes that a configuration uses
pub record AreFirstParts (config : Config) (bytes : List ℕ) (drawn : PartsSoFar) : Type 0 where
  pub by_module : IfSome config.module_shape (λ shape. AreFirstPartsByModule config shape drawn)
  pub by_imports : IfSome config.available_imports (λ shape. AreFirstPartsByImports config shape bytes drawn)
  pub freely : (FixesImports config → ⊥) → HasNothing drawn

-- an error of the first parts: lack of memory, or an error of the exports of a module shape
abbrev pub MayRefuseFirstParts : Config → Error → Type 0
MayRefuseFirstParts config e = (e ≡ errors.Memory) ⊎ IsSomeAnd config.module_shape
    (λ shape. MayRefuseRequired config (drawn_beside config (shape_types shape) (imported_spaces (shape_imports shape)) nothing_defined)
    shape e)

-- the items of a count are entities
abbrev pub IsOfEntities : Count → Type 0
IsOfEntities counts.Tags = ⊤
IsOfEntities counts.Funcs = ⊤
IsOfEntities counts.Tables = ⊤
IsOfEntities counts.Memories = ⊤
IsOfEntities counts.Globals = ⊤
IsOfEntities _ = ⊥

-- what imports add to the type size: 0 with a module shape; with available imports, their sizes;
-- else their sizes and 1 for each
abbrev pub size_of_imports : Config → List SubType → List Import → ℕ
size_of_imports config types imports =
    if is_some config.module_shape then 0
    else if is_some config.available_imports then sum_by (λ (one : Import). size_in types one.entity_type) imports
    else sum_by (λ (one : Import). size_in types one.entity_type + 1) imports

-- a table, and a memory, has a type from a shape or is within the configured bounds
abbrev pub IsTableKept : Config → TableType → Type 0
IsTableKept config table = Contains (of_shapes (λ spaces. spaces.tables) config) table ⊎ IsTableWithin config table

abbrev pub IsMemoryKept : Config → MemoryType → Type 0
IsMemoryKept config memory = Contains (of_shapes (λ spaces. spaces.memories) config) memory ⊎ IsMemoryWithin config memory

-- the valid parts of a module so far, no more than the shapes and the configuration allow
pub record StandsSoFar (config : Config) (drawn : PartsSoFar) : Type 0 where
  pub groups : All (IsImportsValid (features_of config)) drawn.imported.groups
  pub count : drawn.imported.count ≡ length (flattened drawn.imported.groups)
  pub stands : StandsAfter config (imported_spaces (flattened drawn.imported.groups)) drawn.types (spaces_in drawn.imported.spaces)
      drawn.definitions
  pub most : (count : Count) → IsOfEntities count → count_in (spaces_in drawn.imported.spaces) count ≤ max (maximum_of config count)
      (items_of_shapes config count)
  pub most_types : length drawn.types.types ≤ max config.max_types (items_of_shapes config counts.Types)
  pub most_imports : length (flattened drawn.imported.groups) ≤ max config.max_imports (items_of_shapes config counts.Imports)
  pub tables : All (IsTableKept config) drawn.imported.spaces.tables
  pub memories : All (IsMemoryKept config) drawn.imported.spaces.memories
  pub type_size : drawn.imported.type_size ≡ size_of_imports config drawn.types.types (flattened drawn.imported.groups)
  pub within : drawn.imported.type_size ≤ config.max_type_size

-- the same properties after the exports of a shape are made, with the entities defined for the
-- exports
pub record StandsWhole (config : Config) (drawn : PartsSoFar) : Type 0 where
  pub groups : All (IsImportsValid (features_of config)) drawn.imported.groups
  pub count : drawn.imported.count ≡ length (flattened drawn.imported.groups)
  pub stands : StandsAfter config (imported_spaces (flattened drawn.imported.groups)) drawn.types (spaces_in drawn.imported.spaces)
      drawn.definitions
  pub most : (count : Count) → IsOfEntities count → count_in (spaces_in drawn.imported.spaces) count ≤ max (maximum_of config count)
      (items_of_shapes config count) + items_of_export_shape config count
  pub most_types : length drawn.types.types ≤ max config.max_types (items_of_shapes config counts.Types) + items_of_export_shape config
      counts.Types
  pub most_imports : length (flattened drawn.imported.groups) ≤ max config.max_imports (items_of_shapes config counts.Imports)
  pub tables : All (IsTableKept config) drawn.imported.spaces.tables
  pub memories : All (IsMemoryKept config) drawn.imported.spaces.memories
  pub type_size : drawn.imported.type_size ≡ size_of_imports config drawn.types.types (flattened drawn.imported.groups)
  pub within : drawn.imported.type_size ≤ config.max_type_size
