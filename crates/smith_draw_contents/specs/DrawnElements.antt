-- Preconditions and invariants of the step of element segments. Rules of this project.
use Rattle.std.specs.Prelude.{◌≡◌, ◌⊎◌, ℕ, ◌<◌, ◌≤◌, ◌^◌, false, IsTrue, IsSome, IsSomeAnd, Option, Some, List, length, slice_get, All}
use Rattle.std.specs.List.{Any}
use Rattle.smith_bytes.specs.declared.error.Count.TheVariants as counts
use Rattle.smith_draw_contents.specs.Common.{Config, Context, Error, IncorrectFormat, Offset, SubType, TableType, Unmet}
use Rattle.smith_bytes.specs.declared.error.Error.TheVariants.{EmptyChoose, Memory}
use Rattle.smith_types.specs.Entities.{IsTableValid, most_elements}
use Rattle.smith_types.specs.Flags.{IsElementTypeEnabled}
use Rattle.smith_types.specs.Floats.{HasNoFloat, GivesNoFloat}
use Rattle.smith_types.specs.Segments.{table_index, AreItemsValid, IsOffsetValid, IsOffsetInside, IsElementSegmentValid, IsElementInside}
use Rattle.smith_types.specs.Subtyping.{IsRefBelow}
use Rattle.smith_types.specs.ValidTypes.{IsRefTypeValid}
use Rattle.smith_types.specs.Syntax.segments.ElementKind.{ElementKind}
use Rattle.smith_types.specs.Syntax.segments.ElementKind.TheVariants as element_kind
use Rattle.smith_types.specs.Syntax.segments.Elements.{Elements}
use Rattle.smith_types.specs.Syntax.segments.ElementSegment.{ElementSegment}
use Rattle.smith_types.specs.Syntax.value_type.RefType.{RefType}
use Rattle.smith_types.specs.Syntax.value_type.ValType.TheVariants.{Ref}
use Rattle.smith_config.specs.Faults.{Passes}
use Rattle.smith_config.specs.Features.{features_of}
use Rattle.smith_config.specs.Sanitized.{IsSanitized}
use Rattle.smith_config.specs.Granted.{IsUngrounded, HasGroundedItems}
use Rattle.smith_draw_consts.specs.ConstBounds.{MayLack}
use Rattle.smith_draw_types.specs.HeldFields.{HoldsUngroundedField}
use Rattle.smith_draw_consts.specs.ConstScopes.{AreSpacesValid}
use Rattle.smith_draw_types.specs.Grounding.{without_globals}
use Rattle.smith_draw_types.specs.declared.spaces.Spaces.{Spaces}
use Rattle.smith_module_rules.specs.Held.{HasItems, expressions_of}
use Rattle.smith_draw_contents.specs.declared.element_kinds.KindChoice.{KindChoice}
use Rattle.smith_draw_contents.specs.declared.element_kinds.KindChoice.TheVariants as choice

-- a valid table is a possible target of segments, with its index, or without for table 0
pub record IsTarget (config : Config) (types : List SubType) (tables : List TableType) (index : Option ℕ) (table : TableType) : Type 0 where
  pub valid : IsTableValid (features_of config) types table
  pub stands : slice_get tables (table_index index) ≡ Some table
  pub named : IsSome index → IsTrue config.bulk_memory_enabled

-- a mode is offered with these tables
abbrev pub IsKindOffered : Config → List SubType → List TableType → KindChoice → Type 0
IsKindOffered config types tables (choice.Active index table) = IsTarget config types tables index table
IsKindOffered config types tables _ = IsTrue config.bulk_memory_enabled

-- element segments may be drawn over these spaces, which are valid
pub record MayDrawElements (config : Config) (spaces : Spaces) : Type 0 where
  pub passes : Passes config
  pub sanitized : IsSanitized config
  pub standing : AreSpacesValid config spaces
  pub tables : All (IsTableValid (features_of config) spaces.types.now.types) spaces.entities.tables.now
  pub few_tables : length spaces.entities.tables.now < 2 ^ 32

-- the minimum of the target table, if any, is at most the number of elements that its addresses
-- reach
abbrev pub FitsAddresses : KindChoice → Type 0
FitsAddresses (choice.Active index table) = table.minimum ≤ most_elements table.table64
FitsAddresses _ = Unit {0}

-- an offset into a table is valid, and with `disallow_traps` the items after it end within the
-- minimum number of elements
pub record IsPlaced (config : Config) (context : Context) (table : TableType) (offset : Offset) (hint : Option ℕ) : Type 0 where
  pub valid : IsOffsetValid context table.table64 offset
  pub inside : IsTrue config.disallow_traps → IsSomeAnd hint (λ most. IsOffsetInside offset most table.minimum)

-- the mode of a segment is the chosen one, with an offset if it is active
abbrev pub IsKindDrawn : Config → Context → KindChoice → ElementKind × Option ℕ → Type 0
IsKindDrawn config context choice.Passive drawn = drawn.0 ≡ element_kind.Passive
IsKindDrawn config context choice.Declared drawn = drawn.0 ≡ element_kind.Declared
IsKindDrawn config context (choice.Active index table) drawn = (offset : Offset) × (drawn.0 ≡ element_kind.Active index offset)
    × IsPlaced config context table offset drawn.1

-- the target table, if any, accepts items of this type
abbrev pub FitsTable : List SubType → KindChoice → RefType → Type 0
FitsTable types (choice.Active index table) ty = IsRefBelow types ty table.element_type
FitsTable types _ ty = Unit {0}

-- items of a type may be drawn over spaces; both are valid
pub record MayHoldItems (config : Config) (spaces : Spaces) (ty : RefType) : Type 0 where
  pub standing : AreSpacesValid config spaces
  pub valid : IsRefTypeValid (features_of config) (length spaces.types.now.types) ty
  pub enabled : IsElementTypeEnabled (features_of config) ty

-- items of a type are valid and enough, and have no float constant if no type has a float
pub record AreItemsFit (config : Config) (context : Context) (ty : RefType) (items : Elements) : Type 0 where
  pub valid : AreItemsValid context ty items
  pub enough : HasItems config context.types context.funcs items
  pub floats : All HasNoFloat context.types → All (All GivesNoFloat) (expressions_of items)

-- some table has non-nullable elements that are not grounded, or `non_nullable_enabled` is off
abbrev pub HasUngroundedElements : Config → Context → List TableType → Type 0
HasUngroundedElements config context tables = Any (λ (table : TableType). IsUngrounded config context (Ref table.element_type)) tables

-- a segment is valid and has enough items and no floats; with `disallow_traps` its items fit; its
-- type is granted if the elements of all tables are
pub record IsElementFit (config : Config) (context : Context) (tables : List TableType) (segment : ElementSegment) : Type 0 where
  pub valid : IsElementSegmentValid context tables segment
  pub inside : IsTrue config.disallow_traps → IsElementInside tables segment
  pub enough : HasItems config context.types context.funcs segment.items
  pub floats : All HasNoFloat context.types → All (All GivesNoFloat) (expressions_of segment.items)
  pub grounded : ¬ HasUngroundedElements config (without_globals context) tables → HasGroundedItems config (without_globals context) segment

-- there may be no candidate for an item of a segment: a field of a type, or an element of a table,
-- is an ungrounded non-nullable reference
abbrev pub MayLackItem : Config → Context → List TableType → Type 0
MayLackItem config context tables = HoldsUngroundedField config context ⊎ HasUngroundedElements config context tables

-- the errors of items that are functions: lack of memory, or more items are required than allowed
abbrev pub MayRefuseFunctions : Config → Error → Type 0
MayRefuseFunctions config e = (e ≡ Memory) ⊎ ((e ≡ IncorrectFormat (Unmet counts.Elements)) × (0 < config.min_elements))

-- the errors of items of a type: the same, or no candidate
abbrev pub MayRefuseItems : Config → Context → RefType → Error → Type 0
MayRefuseItems config context ty e = MayRefuseFunctions config e ⊎ ((e ≡ EmptyChoose) × MayLack config context (Ref ty))

-- the errors of a segment with these tables
abbrev pub MayRefuseElementSegment : Config → Context → List TableType → Error → Type 0
MayRefuseElementSegment config context tables e = MayRefuseFunctions config e ⊎ ((e ≡ EmptyChoose) × MayLackItem config context tables)

-- the errors of the step of element segments: the errors of a segment, or no mode is offered
abbrev pub MayRefuseElements : Config → Context → List TableType → Error → Type 0
MayRefuseElements config context tables e =
    MayRefuseElementSegment config context tables e
    ⊎ ((e ≡ IncorrectFormat (Unmet counts.ElementSegments)) × (0 < config.min_element_segments) × (config.bulk_memory_enabled ≡ false))
