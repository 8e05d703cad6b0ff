-- Types by their indices: the fields of a struct type, the element of an array type, and types
-- whose created values match a type.
use Rattle.std.specs.Prelude.{ℕ, Bool, false, ◌&&◌, nat_le, Option, Some, None, List, length, slice_get, if◌then◌else◌}
use Rattle.smith_types.specs.Expressions.{field_values}
use Rattle.smith_types.specs.Grounded.{are_defaultable}
use Rattle.smith_body_nodes.specs.Common.{AreValid, BodyContext, CompositeInnerType, is_val_below, SubType, ValType}
use Rattle.smith_types.specs.Syntax.composite_type.CompositeInnerType.TheVariants as inner
use Rattle.smith_types.specs.Syntax.composite_type.FieldType.{FieldType}
use Rattle.smith_types.specs.Syntax.composite_type.StructType.{StructType}
use Rattle.smith_instr.specs.Contexts.{created_reference}

-- whether reference types may have type indices
abbrev pub names_types : BodyContext → Bool
names_types context = context.features.reference_types && context.features.gc

-- the fields of a type, if it is a struct type (Structure, Composite Types)
abbrev pub struct_of : CompositeInnerType → Option StructType
struct_of (inner.Struct structure) = Some structure
struct_of _ = None

abbrev pub struct_in : Option SubType → Option StructType
struct_in (Some t) = struct_of t.composite_type.inner
struct_in None = None

-- the element of a type, if it is an array type
abbrev pub element_of : CompositeInnerType → Option FieldType
element_of (inner.Array array) = Some array.0
element_of _ = None

abbrev pub element_in : Option SubType → Option FieldType
element_in (Some t) = element_of t.composite_type.inner
element_in None = None

-- the values of fields are valid
abbrev pub AreFieldsValid : BodyContext → List FieldType → Type 0
AreFieldsValid context fields = AreValid context (field_values fields)

-- the reference to a created value of the type matches the wanted type
abbrev pub is_created_below : BodyContext → ValType → ℕ → Bool
is_created_below context wanted index = is_val_below context.types (created_reference context index) wanted

-- a struct may be created from default values, or from values for its fields if these are at most
-- seven
abbrev pub is_creatable : Bool → List FieldType → Bool
is_creatable defaults fields = if defaults then are_defaultable fields else nat_le (length fields) 7

abbrev pub is_creatable_in : Bool → Option StructType → Bool
is_creatable_in defaults (Some structure) = is_creatable defaults structure.fields
is_creatable_in defaults None = false

-- a struct type whose created values match the wanted type
abbrev pub is_created_struct : BodyContext → ValType → Bool → ℕ → Bool
is_created_struct context wanted defaults index = is_created_below context wanted index && is_creatable_in defaults
    (struct_in (slice_get context.types index))
