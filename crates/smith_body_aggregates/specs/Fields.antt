-- The uses of fields of structs and of elements of arrays.
use Rattle.std.specs.Prelude.{ℕ, Bool, true, false, ◌&&◌, Option, Some, None, List, length}
use Rattle.smith_types.specs.Expressions.{unpacked}
use Rattle.smith_types.specs.Syntax.Features.{Features}
use Rattle.smith_types.specs.Grounded.{is_defaultable}
use Rattle.smith_types.specs.ValidTypes.{IsValTypeValid}
use Rattle.smith_types.specs.Syntax.value_type.ValType.TheVariants.{Ref}
use Rattle.smith_types.specs.Syntax.composite_type.FieldType.{FieldType}
use Rattle.smith_types.specs.Syntax.composite_type.StorageType.{StorageType}
use Rattle.smith_types.specs.Syntax.composite_type.StorageType.TheVariants as storage
use Rattle.smith_types.specs.Syntax.composite_type.SubType.{SubType}
use Rattle.smith_draw_types.specs.Below.{is_val_below}
use Rattle.smith_instr.specs.AggregateTypes.{value_of}
use Rattle.smith_instr.specs.Contexts.{BodyContext}
use Rattle.smith_instr.specs.declared.aggregate.Extension.{Extension}
use Rattle.smith_instr.specs.declared.aggregate.Extension.TheVariants as extension
use Rattle.smith_body_aggregates.specs.declared.fields.FieldUse.{FieldUse}
use Rattle.smith_body_aggregates.specs.declared.fields.FieldUse.TheVariants as field_use

-- whether a data segment may fill a field: a packed integer, a number or a vector (Validation,
-- Aggregate Instructions, array.new_data)
abbrev pub is_of_bytes : StorageType → Bool
is_of_bytes (storage.Val (Ref reference)) = false
is_of_bytes _ = true

abbrev pub is_of_references : StorageType → Bool
is_of_references (storage.Val (Ref reference)) = true
is_of_references _ = false

-- one storage type matches another (Validation, Matching, Field Types)
abbrev pub is_storage_below : List SubType → StorageType → StorageType → Bool
is_storage_below types storage.I8 storage.I8 = true
is_storage_below types storage.I16 storage.I16 = true
is_storage_below types (storage.Val a) (storage.Val b) = is_val_below types a b
is_storage_below types _ _ = false

-- the type in a use of a field or an element is valid
abbrev pub IsUseOver : Features → ℕ → FieldUse → Type 0
IsUseOver features end (field_use.Read wanted) = IsValTypeValid features end wanted
IsUseOver features end (field_use.CopyInto stored) = IsValTypeValid features end (unpacked stored)
IsUseOver features end _ = Unit {0}

abbrev pub IsUse : BodyContext → FieldUse → Type 0
IsUse context way = IsUseOver context.features (length context.types) way

-- whether a field or an element may be used in this way
abbrev pub is_usable : List SubType → FieldUse → FieldType → Bool
is_usable types (field_use.Read wanted) field = is_val_below types (value_of field) wanted
is_usable types field_use.New field = true
is_usable types field_use.NewDefault field = is_defaultable (value_of field)
is_usable types field_use.NewBytes field = is_of_bytes field.element_type
is_usable types field_use.NewReferences field = is_of_references field.element_type
is_usable types field_use.Set field = field.mutable
is_usable types field_use.SetBytes field = field.mutable && is_of_bytes field.element_type
is_usable types field_use.SetReferences field = field.mutable && is_of_references field.element_type
is_usable types (field_use.CopyInto stored) field = is_storage_below types field.element_type stored

abbrev pub is_usable_in : List SubType → FieldUse → Option FieldType → Bool
is_usable_in types way (Some field) = is_usable types way field
is_usable_in types way None = false

-- the extension of a field that is read: none unless it is packed (Validation, Aggregate
-- Instructions, struct.get)
abbrev pub extension_of : StorageType → Bool → Extension
extension_of (storage.Val value) signed = extension.Unpacked
extension_of _ true = extension.Signed
extension_of _ false = extension.Unsigned
