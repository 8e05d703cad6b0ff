-- Validity stated part by part, as the decision procedures establish it. The definitions of
-- validity are derived from these by proof.
use Rattle.std.specs.Prelude.{◌≡◌, ◌<◌, ◌≤◌, ℕ, List, [], Some, All, length, slice_get}
use Rattle.std.specs.declared.ops.Range.{Range}
use Rattle.smith_types.specs.Syntax.Features.{Features}
use Rattle.smith_types.specs.Imports.{EntitySpaces}
use Rattle.smith_types.specs.ValidTypes.{values_of, IsTypeValid}
use Rattle.smith_types.specs.Matching.{IsInnerInRange}
use Rattle.smith_types.specs.Entities.{IsFuncTypeIndex, IsTagValid, IsTableValid, IsMemoryValid, IsGlobalValid}
use Rattle.smith_types.specs.Exports.{AreExportsStanding}
use Rattle.smith_types.specs.Syntax.value_type.ValType.{ValType}
use Rattle.smith_types.specs.Syntax.value_type.ValType.TheVariants.{Ref}
use Rattle.smith_types.specs.Syntax.composite_type.StorageType.{StorageType}
use Rattle.smith_types.specs.Syntax.composite_type.StorageType.TheVariants.{I8, I16, Val}
use Rattle.smith_types.specs.Syntax.composite_type.FieldType.{FieldType}
use Rattle.smith_types.specs.Syntax.composite_type.CompositeInnerType.{CompositeInnerType}
use Rattle.smith_types.specs.Syntax.composite_type.CompositeInnerType.TheVariants.{Array, Func, Struct}
use Rattle.smith_types.specs.Syntax.composite_type.SubType.{SubType}
use Rattle.smith_types.specs.Syntax.entity_type.ExportKind.{ExportKind}
use Rattle.smith_types.specs.Syntax.entity_type.ExportKind.TheVariants as kind
use Rattle.smith_types.specs.Syntax.entity_type.GlobalType.{GlobalType}
use Rattle.smith_types.specs.Syntax.entity_type.TableType.{TableType}

-- the value type of a storage type has the property `P`; a packed type has none
abbrev pub IsStored : (ValType → Type 0) → StorageType → Type 0
IsStored P I8 = Unit {0}
IsStored P I16 = Unit {0}
IsStored P (Val value) = P value

-- each value type in a composite type has the property `P`
abbrev pub AreHeld : (ValType → Type 0) → CompositeInnerType → Type 0
AreHeld P (Array array) = IsStored P array.0.element_type
AreHeld P (Func function) = All P function.params × All P function.results
AreHeld P (Struct structure) = All (λ (field : FieldType). IsStored P field.element_type) structure.fields

-- each value type in types, tables and globals has the property `P`
pub record AreNamed (P : ValType → Type 0) (listed : List SubType) (spaces : EntitySpaces) : Type 0 where
  pub of_types : All (λ (t : SubType). All P (values_of t.composite_type.inner)) listed
  pub of_tables : All (λ (table : TableType). P (Ref table.element_type)) spaces.tables
  pub of_globals : All (λ (global : GlobalType). P global.val_type) spaces.globals

-- each type refers only to types that exist
pub record AreInRange (types : List SubType) : Type 0 where
  pub each : (i : ℕ) (t : SubType) → slice_get types i ≡ Some t → IsInnerInRange types t.composite_type.inner

-- each type of the group is valid
pub record AreMembersValid (features : Features) (types : List SubType) (group : Range ℕ) : Type 0 where
  pub each : (i : ℕ) (t : SubType) → group.start ≤ i → i < group.end → slice_get types i ≡ Some t → IsTypeValid features types group.end t

-- a function type without results
abbrev pub IsTagType : CompositeInnerType → Type 0
IsTagType (Func function) = function.results ≡ []
IsTagType _ = ⊥

-- each function has a valid type index
pub record AreFuncsValid (types : List SubType) (funcs : List ℕ) : Type 0 where
  pub each : All (IsFuncTypeIndex types) funcs

-- each tag has a valid type index
pub record AreTagsValid (types : List SubType) (tags : List ℕ) : Type 0 where
  pub each : All (IsTagValid types) tags

-- each entity of the index spaces is valid
pub record AreListsValid (features : Features) (types : List SubType) (spaces : EntitySpaces) : Type 0 where
  pub of_tags : AreTagsValid types spaces.tags
  pub of_funcs : AreFuncsValid types spaces.funcs
  pub of_tables : All (IsTableValid features types) spaces.tables
  pub of_memories : All (IsMemoryValid features) spaces.memories
  pub of_globals : All (IsGlobalValid features types) spaces.globals

-- the number of entities of a kind
abbrev pub count_at : EntitySpaces → ExportKind → ℕ
count_at spaces kind.Func = length spaces.funcs
count_at spaces kind.Table = length spaces.tables
count_at spaces kind.Memory = length spaces.memories
count_at spaces kind.Global = length spaces.globals
count_at spaces kind.Tag = length spaces.tags

-- each exported entity exists
pub record AreExportsFound (spaces : EntitySpaces) (exported : List (List ℕ × ExportKind × ℕ)) : Type 0 where
  pub each : AreExportsStanding spaces exported
