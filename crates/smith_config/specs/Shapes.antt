-- Shapes that a module may be required to have. A shape is valid by the definitions of the
-- standard; which shapes are accepted is a rule of this project.
use Rattle.std.specs.Prelude.{◌≡◌, ℕ, ◌≤◌, ◌^◌, false, IsTrue, List, ◌++◌, Option, None, is_some, length, All, if◌then◌else◌}
use Rattle.smith_bytes.specs.declared.error.Which.{Which}
use Rattle.smith_bytes.specs.declared.error.Which.TheVariants.{AvailableImports, Exports, ModuleShape}
use Rattle.smith_types.specs.Syntax.Features.{Features}
use Rattle.smith_types.specs.Syntax.Kinds.{kind}
use Rattle.smith_types.specs.GroupedTypes.{HasDepth}
use Rattle.smith_types.specs.ValidTypes.{AreTypesValid}
use Rattle.smith_types.specs.Imports.{EntitySpaces, flattened, imported_spaces}
pub use Rattle.smith_types.specs.Groups.{ranges_from, space_of}
use Rattle.smith_types.specs.HeldValues.{values_in}
use Rattle.smith_types.specs.Entities.{AreEntitiesValid, AreCountsEnabled}
use Rattle.smith_types.specs.Exports.{AreExportsValid}
use Rattle.smith_types.specs.Syntax.value_type.AbstractHeapType.TheVariants as heap
use Rattle.smith_types.specs.Syntax.value_type.HeapType.{HeapType}
use Rattle.smith_types.specs.Syntax.value_type.HeapType.TheVariants.{Abstract, Concrete, Exact}
use Rattle.smith_types.specs.Syntax.value_type.ValType.{ValType}
use Rattle.smith_types.specs.Syntax.value_type.ValType.TheVariants.{Ref}
use Rattle.smith_types.specs.Syntax.composite_type.CompositeInnerType.{CompositeInnerType}
use Rattle.smith_types.specs.Syntax.composite_type.CompositeInnerType.TheVariants.{Array, Func, Struct}
use Rattle.smith_types.specs.Syntax.composite_type.SubType.{SubType}
use Rattle.smith_types.specs.Syntax.entity_type.GlobalType.{GlobalType}
use Rattle.smith_types.specs.Syntax.entity_type.TableType.{TableType}
use Rattle.smith_types.specs.Syntax.imports.Import.{Import}
use Rattle.smith_config.specs.declared.config.Config.{Config}
use Rattle.smith_config.specs.declared.shape.Shape.{Shape}
use Rattle.smith_config.specs.Features.{features_of}

-- the shapes of a configuration, if given
pub record Shapes : Type 0 where
  pub available_imports : Option Shape
  pub exports : Option Shape
  pub module_shape : Option Shape

-- no shape
abbrev pub no_shapes : Shapes
no_shapes = record { available_imports = None; exports = None; module_shape = None }

-- The shapes in use: a module shape replaces the others. The definitions of modules refer to these
-- shapes, or to fields that equal them in a sanitised configuration.
abbrev pub in_use : Shapes → Shapes
in_use shapes = if is_some shapes.module_shape then record no_shapes { module_shape = shapes.module_shape } else shapes

-- the types of a shape
abbrev pub shape_types : Shape → List SubType
shape_types shape = (space_of shape.groups).types

-- the imports of a shape, one by one
abbrev pub shape_imports : Shape → List Import
shape_imports shape = flattened shape.imports

-- the index spaces of a shape
abbrev pub shape_spaces : Shape → EntitySpaces
shape_spaces shape =
    let before = imported_spaces (shape_imports shape) in
    record {
      tags = before.tags ++ shape.tags;
      funcs = before.funcs ++ shape.funcs;
      tables = before.tables ++ shape.tables;
      memories = before.memories ++ shape.memories;
      globals = before.globals ++ shape.globals;
    }

-- the maximum length of a list in a shape
abbrev pub most_listed : ℕ
most_listed = 2 ^ 29

-- no list of a composite type is too long
abbrev pub IsInnerShort : CompositeInnerType → Type 0
IsInnerShort (Array array) = Unit {0}
IsInnerShort (Func function) = (length function.params ≤ most_listed) × (length function.results ≤ most_listed)
IsInnerShort (Struct structure) = length structure.fields ≤ most_listed

-- no list of a shape is too long, and neither are the types and the imports of all groups together
pub record IsShort (shape : Shape) : Type 0 where
  pub groups : length shape.groups ≤ most_listed
  pub types : length (shape_types shape) ≤ most_listed
  pub inner : All (λ (t : SubType). IsInnerShort t.composite_type.inner) (shape_types shape)
  pub import_groups : length shape.imports ≤ most_listed
  pub imports : length (shape_imports shape) ≤ most_listed
  pub funcs : length shape.funcs ≤ most_listed
  pub tags : length shape.tags ≤ most_listed
  pub tables : length shape.tables ≤ most_listed
  pub memories : length shape.memories ≤ most_listed
  pub globals : length shape.globals ≤ most_listed
  pub exports : length shape.exports ≤ most_listed

-- the path from a type along its declared supertypes has at most 62 steps
pub record IsShallow (types : List SubType) : Type 0 where
  pub each : (index depth : ℕ) → HasDepth types index depth → depth ≤ 63

-- the value types in the types, tables and globals of a shape
abbrev pub shape_values : Shape → List ValType
shape_values shape = values_in (shape_types shape) (shape_spaces shape)

-- a heap type may occur in a shape: it is neither exact nor shared
abbrev pub IsHeapTypeIncluded : HeapType → Type 0
IsHeapTypeIncluded (Abstract shared ty) = shared ≡ false
IsHeapTypeIncluded (Concrete index) = Unit {0}
IsHeapTypeIncluded (Exact index) = ⊥

-- a value type may occur in a shape
abbrev pub IsValTypeIncluded : ValType → Type 0
IsValTypeIncluded (Ref reference) = IsHeapTypeIncluded reference.heap_type
IsValTypeIncluded _ = Unit {0}

-- no type, table or global is shared, and no reference is shared or exact
pub record IsNothingLeftOut (listed : List SubType) (spaces : EntitySpaces) : Type 0 where
  pub types : All (λ (t : SubType). t.composite_type.shared ≡ false) listed
  pub values : All IsValTypeIncluded (values_in listed spaces)
  pub tables : All (λ (table : TableType). table.shared ≡ false) spaces.tables
  pub globals : All (λ (global : GlobalType). global.shared ≡ false) spaces.globals

-- no type, table or global of a shape is shared, and no reference is shared or exact
abbrev pub HasNothingLeftOut : Shape → Type 0
HasNothingLeftOut shape = IsNothingLeftOut (shape_types shape) (shape_spaces shape)

-- a type may occur in a shape for exports: it is a final function type without a supertype
pub record IsTypePlain (t : SubType) : Type 0 where
  pub final : IsTrue t.is_final
  pub root : t.supertype ≡ None
  pub function : kind t ≡ heap.Func

-- a heap type is not concrete; another condition excludes exact types
abbrev pub IsNotConcrete : HeapType → Type 0
IsNotConcrete (Abstract shared ty) = Unit {0}
IsNotConcrete (Concrete index) = ⊥
IsNotConcrete (Exact index) = Unit {0}

-- a value type is not a reference to a concrete type
abbrev pub HasNoConcrete : ValType → Type 0
HasNoConcrete (Ref reference) = IsNotConcrete reference.heap_type
HasNoConcrete _ = Unit {0}

-- all types are plain, and no reference is to a concrete type
pub record ArePlain (listed : List SubType) (spaces : EntitySpaces) : Type 0 where
  pub types : All IsTypePlain listed
  pub values : All HasNoConcrete (values_in listed spaces)

-- the types and references of a shape are plain, as a shape for exports requires
abbrev pub IsPlain : Shape → Type 0
IsPlain shape = ArePlain (shape_types shape) (shape_spaces shape)

-- the items of a shape are valid under the features, and types are not too deep
pub record IsConsistent (features : Features) (shape : Shape) : Type 0 where
  pub types : AreTypesValid features (space_of shape.groups)
  pub shallow : IsShallow (shape_types shape)
  pub entities : AreEntitiesValid features (shape_types shape) (shape_spaces shape)
  pub exports : AreExportsValid (shape_spaces shape) shape.exports

-- tags, a second table and a second memory have their features; available imports are exempt,
-- because a module may leave some of them out
abbrev pub AreCountsFor : Which → Features → EntitySpaces → Type 0
AreCountsFor AvailableImports features spaces = Unit {0}
AreCountsFor Exports features spaces = AreCountsEnabled features spaces
AreCountsFor ModuleShape features spaces = AreCountsEnabled features spaces

-- tags, a second table and a second memory of a shape have their features, except in available
-- imports
abbrev pub AreCountsFit : Which → Features → Shape → Type 0
AreCountsFit which features shape = AreCountsFor which features (shape_spaces shape)

-- a shape is accepted for this use in this configuration
pub record IsShapeValid (which : Which) (config : Config) (shape : Shape) : Type 0 where
  pub short : IsShort shape
  pub nothing_left_out : HasNothingLeftOut shape
  pub consistent : IsConsistent (features_of config) shape
  pub counts : AreCountsFit which (features_of config) shape
  pub plain : which ≡ Exports → IsPlain shape
