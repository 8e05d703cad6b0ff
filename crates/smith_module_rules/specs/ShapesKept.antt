-- What a module has from its shapes. Rules of this project.
use Rattle.std.specs.Prelude.{◌≡◌, ℕ, IsTrue, IfSome, List, [], None, Some, slice_get}
use Rattle.std.specs.List.{AllZip}
use Rattle.smith_types.specs.Grown.{Extends}
use Rattle.smith_module_rules.specs.Common.{Config, EntitySpaces, EntityType, flattened, Shape, shape_imports, shapes_of, SubType}
use Rattle.smith_types.specs.Exports.{IsEntityAt}
use Rattle.smith_types.specs.Syntax.entity_type.EntityType.TheVariants as entity
use Rattle.smith_config.specs.Shapes.{shape_spaces, shape_types, space_of}
use Rattle.smith_module_rules.specs.ShapeImports.{kept_groups, taken_from}
use Rattle.smith_module_rules.specs.Module.{ModuleParts, module_spaces}
use Rattle.smith_module_rules.specs.ExportedItems.{Export}

-- the module's types and groups begin with the shape's types and groups
pub record KeepsTypes (shape : Shape) (m : ModuleParts) : Type 0 where
  pub types : Extends (shape_types shape) m.types
  pub groups : Extends (space_of shape.groups).groups m.groups

-- two exports have the same name and kind, and entities of the same type
pub record IsSameExport (IsSame : EntityType → EntityType → Type 0) (ours theirs : EntitySpaces) (one other : Export) : Type 0 where
  pub name : one.0 ≡ other.0
  pub kind : one.1 ≡ other.1
  pub mine : EntityType
  pub yours : EntityType
  pub mine_is : IsEntityAt ours one.1 one.2 mine
  pub yours_is : IsEntityAt theirs other.1 other.2 yours
  pub same : IsSame mine yours

-- a module with a module shape: its types begin with the shape's, and its imports and exports are
-- exactly the shape's, in order
pub record KeepsModuleShape (shape : Shape) (m : ModuleParts) : Type 0 where
  pub types : KeepsTypes shape m
  pub imports : m.imports ≡ kept_groups m.config shape
  pub exports : AllZip (IsSameExport (λ mine yours. mine ≡ yours) (module_spaces m) (shape_spaces shape)) m.exports shape.exports

-- two function types have the same parameters and results, and the first is final and has no
-- supertype
pub record IsSameFuncType (ours theirs : List SubType) (index other : ℕ) : Type 0 where
  pub mine : SubType
  pub yours : SubType
  pub stands : slice_get ours index ≡ Some mine
  pub stood : slice_get theirs other ≡ Some yours
  pub final : IsTrue mine.is_final
  pub root : mine.supertype ≡ None
  pub same : mine.composite_type ≡ yours.composite_type

-- two entities have the same type, each in its own list of types
abbrev pub IsSameType : List SubType → List SubType → EntityType → EntityType → Type 0
IsSameType ours theirs (entity.Func index) (entity.Func other) = IsSameFuncType ours theirs index other
IsSameType ours theirs (entity.Tag index) (entity.Tag other) = IsSameFuncType ours theirs index other
IsSameType ours theirs one other = one ≡ other

-- the exports are exactly the shape's, in order
abbrev pub KeepsExports : Shape → ModuleParts → Type 0
KeepsExports shape m = AllZip (IsSameExport (IsSameType m.types (shape_types shape)) (module_spaces m) (shape_spaces shape)) m.exports
    shape.exports

-- the types begin with the shape's types, and the imports are exactly those of the shape that the
-- bytes choose and that fit, in order
pub record KeepsAvailableImports (bytes : List ℕ) (shape : Shape) (m : ModuleParts) : Type 0 where
  pub types : KeepsTypes shape m
  pub imports : flattened m.imports ≡ taken_from m.config (shape_types shape) bytes 0 [] (shape_imports shape)

-- a module from these bytes has what each shape in use requires
pub record KeepsShapes (config : Config) (bytes : List ℕ) (m : ModuleParts) : Type 0 where
  pub module_shape : IfSome (shapes_of config).module_shape (λ shape. KeepsModuleShape shape m)
  pub available_imports : IfSome (shapes_of config).available_imports (λ shape. KeepsAvailableImports bytes shape m)
  pub exports : IfSome (shapes_of config).exports (λ shape. KeepsExports shape m)
