-- The faults of a shape, and the one that is reported. Rules of this project.
use Rattle.std.specs.Prelude.{◌≡◌, ℕ, IsTrue, List, [], ◌∷◌, ◌++◌, length, map, All}
use Rattle.smith_bytes.specs.declared.error.Which.{Which}
use Rattle.smith_bytes.specs.declared.error.Which.TheVariants.{Exports}
use Rattle.smith_bytes.specs.declared.error.ShapeFault.{ShapeFault}
use Rattle.smith_bytes.specs.declared.error.ShapeFault.TheVariants as fault
use Rattle.smith_bytes.specs.declared.error.Error.{Error}
use Rattle.smith_bytes.specs.declared.error.Error.TheVariants as error
use Rattle.smith_types.specs.Syntax.Features.{Features, every_feature}
use Rattle.smith_types.specs.GroupedTypes.{GroupedTypes}
use Rattle.smith_types.specs.Imports.{EntitySpaces}
use Rattle.smith_types.specs.HeldValues.{values_in}
use Rattle.smith_types.specs.ValidTypes.{AreTypesValid, IsValTypeValid, IsShareable}
use Rattle.smith_types.specs.Entities.{AreLimitsValid, most_elements, IsTagValid, IsFuncTypeIndex, IsTableValid, IsMemoryValid}
use Rattle.smith_types.specs.Entities.{IsGlobalValid}
use Rattle.smith_types.specs.Exports.{AreDistinct, AreExportsStanding}
use Rattle.smith_types.specs.Syntax.value_type.ValType.TheVariants.{Ref}
use Rattle.smith_types.specs.Syntax.entity_type.ExportKind.{ExportKind}
use Rattle.smith_types.specs.Syntax.entity_type.GlobalType.{GlobalType}
use Rattle.smith_types.specs.Syntax.entity_type.TableType.{TableType}
use Rattle.smith_config.specs.declared.config.Config.{Config}
use Rattle.smith_config.specs.declared.shape.Shape.{Shape}
use Rattle.smith_config.specs.Features.{features_of}
use Rattle.smith_config.specs.Shapes.{IsShort, IsShallow, IsPlain, HasNothingLeftOut, AreCountsFor, space_of, shape_spaces}

-- types, and the entities that refer to them, are valid with every feature enabled; shared entities
-- hold only values that may be shared
pub record AreTypesSound (space : GroupedTypes) (spaces : EntitySpaces) : Type 0 where
  pub types : AreTypesValid every_feature space
  pub values : All (IsValTypeValid every_feature (length space.types)) (values_in space.types spaces)
  pub tables : All (λ (table : TableType). IsTrue table.shared → IsShareable space.types (Ref table.element_type)) spaces.tables
  pub globals : All (λ (global : GlobalType). IsTrue global.shared → IsShareable space.types global.val_type) spaces.globals

-- functions, tags and exports refer to items that exist and have the right kind
pub record AreIndicesSound (space : GroupedTypes) (spaces : EntitySpaces) (exported : List (List ℕ × ExportKind × ℕ)) : Type 0 where
  pub funcs : All (IsFuncTypeIndex space.types) spaces.funcs
  pub tags : All (IsTagValid space.types) spaces.tags
  pub exports : AreExportsStanding spaces exported

-- the limits of tables and memories are valid with every feature enabled, and types are not too
-- deep
pub record AreLimitsSound (space : GroupedTypes) (spaces : EntitySpaces) : Type 0 where
  pub tables : All (λ (table : TableType). AreLimitsValid (most_elements table.table64) table.minimum table.maximum) spaces.tables
  pub memories : All (IsMemoryValid every_feature) spaces.memories
  pub shallow : IsShallow space.types

-- the features of a configuration suffice for the types and the entities
pub record AreFeaturesEnough (which : Which) (features : Features) (space : GroupedTypes) (spaces : EntitySpaces) : Type 0 where
  pub types : AreTypesValid features space
  pub tables : All (IsTableValid features space.types) spaces.tables
  pub memories : All (IsMemoryValid features) spaces.memories
  pub globals : All (IsGlobalValid features space.types) spaces.globals
  pub counts : AreCountsFor which features spaces

-- the types of a shape are sound
abbrev pub AreTypesRight : Shape → Type 0
AreTypesRight shape = AreTypesSound (space_of shape.groups) (shape_spaces shape)

-- the indices of a shape are sound
abbrev pub AreIndicesRight : Shape → Type 0
AreIndicesRight shape = AreIndicesSound (space_of shape.groups) (shape_spaces shape) shape.exports

-- the limits of a shape are sound
abbrev pub AreLimitsRight : Shape → Type 0
AreLimitsRight shape = AreLimitsSound (space_of shape.groups) (shape_spaces shape)

-- the features suffice for a shape
abbrev pub AreFeaturesOn : Which → Features → Shape → Type 0
AreFeaturesOn which features shape = AreFeaturesEnough which features (space_of shape.groups) (shape_spaces shape)

-- the condition of each fault of a shape; a missing feature is a fault only if the shape is valid
-- with every feature
abbrev pub HasShapeFault : Which → Config → Shape → ShapeFault → Type 0
HasShapeFault which config shape fault.TooLong = IsShort shape → ⊥
HasShapeFault which config shape fault.BadType = AreTypesRight shape → ⊥
HasShapeFault which config shape fault.Index = AreIndicesRight shape → ⊥
HasShapeFault which config shape fault.Limit = AreLimitsRight shape → ⊥
HasShapeFault which config shape fault.Feature = AreFeaturesOn which every_feature shape × (AreFeaturesOn which (features_of config) shape
    → ⊥)
HasShapeFault which config shape fault.DuplicateExport = AreDistinct (map (λ (one : List ℕ × ExportKind × ℕ). one.0) shape.exports) → ⊥
HasShapeFault which config shape fault.NotPlain = (which ≡ Exports) × (IsPlain shape → ⊥)
HasShapeFault which config shape fault.LeftOut = HasNothingLeftOut shape → ⊥

-- the faults of a shape, in the order of the check
abbrev pub shape_faults : List ShapeFault
shape_faults = fault.TooLong ∷ fault.BadType ∷ fault.Index ∷ fault.Limit ∷ fault.Feature ∷ fault.DuplicateExport ∷ fault.NotPlain
    ∷ fault.LeftOut ∷ []

-- the fault is the first that the shape has
pub record IsFirstShapeFault (which : Which) (config : Config) (shape : Shape) (found : ShapeFault) : Type 0 where
  pub before : List ShapeFault
  pub after : List ShapeFault
  pub order : shape_faults ≡ before ++ found ∷ after
  pub earlier : All (λ other. ¬ HasShapeFault which config shape other) before
  pub there : HasShapeFault which config shape found

-- an error of the check of a shape: its first fault, or a failed allocation; checking a shape that
-- is too long allocates nothing
abbrev pub IsRefused : Which → Config → Shape → Error → Type 0
IsRefused which config shape error.Memory = IsShort shape
IsRefused which config shape (error.Shape named found) = (named ≡ which) × IsFirstShapeFault which config shape found
IsRefused which config shape _ = ⊥
