-- Types, functions and configurations of the examples of families and spellings.
use Rattle.std.specs.Prelude.{ℕ, zero, suc, Bool, true, false, List, [], ◌∷◌, Option, None, replicate}
use Rattle.smith_types.specs.Syntax.value_type.HeapType.{HeapType}
use Rattle.smith_types.specs.Syntax.value_type.HeapType.TheVariants.{Concrete}
use Rattle.smith_types.specs.Syntax.value_type.ValType.{ValType}
use Rattle.smith_types.specs.Syntax.value_type.ValType.TheVariants.{I32, I64, F32, Ref}
use Rattle.smith_types.specs.Syntax.composite_type.StorageType.TheVariants.{I8, Val}
use Rattle.smith_types.specs.Syntax.composite_type.FieldType.{FieldType}
use Rattle.smith_types.specs.Syntax.composite_type.CompositeInnerType.{CompositeInnerType}
use Rattle.smith_types.specs.Syntax.composite_type.CompositeInnerType.TheVariants.{Array, Func, Struct}
use Rattle.smith_types.specs.Syntax.composite_type.SubType.{SubType}
use Rattle.smith_types.specs.ExampleTypes.{constant, variable, nullable, not_null}
use Rattle.smith_config.specs.declared.config.Config.{Config}
use Rattle.smith_config.specs.Config.{default_config}

-- an unshared type
abbrev pub a_type : CompositeInnerType → Bool → Option ℕ → SubType
a_type inner final supertype = record { is_final = final; supertype = supertype; composite_type = record { inner = inner; shared = false } }

-- an array of constant bytes
abbrev pub bytes_array : CompositeInnerType
bytes_array = Array (record { 0 = record { element_type = I8; mutable = false } })

-- a function type without parameters and results
abbrev pub plain_function : CompositeInnerType
plain_function = Func (record { params = []; results = [] })

-- a function type with one i32 parameter and one i64 result
abbrev pub foo_type : SubType
foo_type = a_type (Func (record { params = I32 ∷ []; results = I64 ∷ [] })) true None

-- a function type with one float parameter and no result
abbrev pub quux_type : SubType
quux_type = a_type (Func (record { params = F32 ∷ []; results = [] })) true None

-- a final type without a supertype
abbrev pub final : CompositeInnerType → SubType
final inner = a_type inner true None

-- a group of one final type
abbrev pub alone : CompositeInnerType → List SubType
alone inner = final inner ∷ []

-- one group, of a function type without parameters and results
abbrev pub one_function_type : List (List SubType)
one_function_type = alone plain_function ∷ []

-- a function type with one number as a parameter
abbrev pub taking_a_number : CompositeInnerType
taking_a_number = Func (record { params = I32 ∷ []; results = [] })

-- a function type with two numbers as results
abbrev pub giving_two : CompositeInnerType
giving_two = Func (record { params = []; results = I32 ∷ I32 ∷ [] })

-- a field with a nullable reference to the type of this index
abbrev pub field_of : ℕ → FieldType
field_of index = variable (Val (Ref (nullable (Concrete index))))

-- a struct with one such field
abbrev pub struct_of : ℕ → CompositeInnerType
struct_of index = Struct (record { fields = field_of index ∷ [] })

-- an array type, and in a group of its own a struct that refers to it
abbrev pub array_and_struct : List (List SubType)
array_and_struct = alone bytes_array ∷ alone (struct_of 0) ∷ []

-- a struct with `count` byte fields
abbrev pub struct_of_bytes : ℕ → CompositeInnerType
struct_of_bytes count = Struct (record { fields = replicate count (constant I8) })

-- one type and one function, without garbage collection
abbrev pub one_of_each_without_gc : Config
one_of_each_without_gc = record default_config { gc_enabled = false; max_types = 1; max_funcs = 1 }

-- a function type with a number of parameters
abbrev pub taking_numbers : ℕ → CompositeInnerType
taking_numbers count = Func (record { params = replicate count I32; results = [] })

-- a function type with a number of results
abbrev pub giving_numbers : ℕ → CompositeInnerType
giving_numbers count = Func (record { params = []; results = replicate count I32 })

-- a function type with this result
abbrev pub giving : ValType → CompositeInnerType
giving result = Func (record { params = []; results = result ∷ [] })

-- a function type with this parameter
abbrev pub taking : ValType → CompositeInnerType
taking param = Func (record { params = param ∷ []; results = [] })

-- an array and a struct that refers to it, in one group
abbrev pub array_and_struct_together : List (List SubType)
array_and_struct_together = (final bytes_array ∷ final (struct_of 0) ∷ []) ∷ []

-- a struct with one constant field, a non-nullable reference to this heap type
abbrev pub struct_with : HeapType → CompositeInnerType
struct_with ty = Struct (record { fields = constant (Val (Ref (not_null ty))) ∷ [] })

-- a struct without fields, and in a group of its own a struct with a non-nullable reference to it
abbrev pub struct_and_holder : List (List SubType)
struct_and_holder = alone (struct_of_bytes 0) ∷ alone (struct_with (Concrete 0)) ∷ []

-- no type and no import
abbrev pub no_types_and_imports : Config
no_types_and_imports = record default_config { max_types = 0; max_imports = 0 }

-- no garbage collection
abbrev pub without_gc : Config
without_gc = record default_config { gc_enabled = false }

-- no floats
abbrev pub without_floats : Config
without_floats = record default_config { allow_floats = false }

-- types that may be shared
abbrev pub with_shared_types : Config
with_shared_types = record default_config { shared_everything_threads_enabled = true }

-- references that are not nullable
abbrev pub with_non_nullable : Config
with_non_nullable = record default_config { non_nullable_enabled = true }

-- exact types
abbrev pub with_exact_types : Config
with_exact_types = record default_config { custom_descriptors_enabled = true }

-- one result at most
abbrev pub single_results : Config
single_results = record default_config { multi_value_enabled = false }

-- every maximum is 0
abbrev pub nothing_may_be : Config
nothing_may_be = record default_config {
  max_types = 0;
  max_imports = 0;
  max_tags = 0;
  max_funcs = 0;
  max_globals = 0;
  max_exports = 0;
  max_element_segments = 0;
  max_elements = 0;
  max_data_segments = 0;
  max_memories = 0;
  max_tables = 0;
}

-- bytes that spell one function without parameters and results
abbrev pub function_bytes : List ℕ
function_bytes = 1 ∷ 1 ∷ 1 ∷ 1 ∷ 0 ∷ 0 ∷ 0 ∷ 0 ∷ 0 ∷ 0 ∷ 1 ∷ 0 ∷ []

-- one function with a number as its parameter, without garbage collection and without room for more
abbrev pub full_bytes : List ℕ
full_bytes = 1 ∷ 1 ∷ 0 ∷ 0 ∷ 0 ∷ 0 ∷ 0 ∷ 0 ∷ 1 ∷ []

-- an array and, in a group of its own, a struct that refers to it
abbrev pub array_and_struct_bytes : List ℕ
array_and_struct_bytes = 1 ∷ 1 ∷ 1 ∷ 0 ∷ 0 ∷ 0 ∷ 1 ∷ 1 ∷ 1 ∷ 1 ∷ 2 ∷ 1 ∷ 2 ∷ 5 ∷ 1 ∷ 0 ∷ 1 ∷ 0 ∷ 0 ∷ 0 ∷ []

-- a struct without fields and, in a group of its own, a struct with a non-nullable reference to it
abbrev pub struct_and_holder_bytes : List ℕ
struct_and_holder_bytes = 1 ∷ 1 ∷ 1 ∷ 2 ∷ 0 ∷ 1 ∷ 1 ∷ 1 ∷ 1 ∷ 2 ∷ 1 ∷ 2 ∷ 5 ∷ 1 ∷ 0 ∷ 1 ∷ 0 ∷ 0 ∷ 0 ∷ 0 ∷ []

-- after no types, a global with the number 7
abbrev pub number_bytes : List ℕ
number_bytes = 0 ∷ 0 ∷ 1 ∷ 0 ∷ 1 ∷ 0 ∷ 7 ∷ 0 ∷ 0 ∷ 0 ∷ 0 ∷ 0 ∷ 0 ∷ 0 ∷ 0 ∷ []

-- after no types, passive data of one byte
abbrev pub data_bytes : List ℕ
data_bytes = 0 ∷ 0 ∷ 0 ∷ 0 ∷ 0 ∷ 0 ∷ 1 ∷ 1 ∷ 42 ∷ 0 ∷ 0 ∷ []

-- the bytes with another byte at `place`
abbrev pub with_byte : ℕ → ℕ → List ℕ → List ℕ
with_byte place other [] = []
with_byte zero other (byte ∷ bytes) = other ∷ bytes
with_byte (suc place) other (byte ∷ bytes) = byte ∷ with_byte place other bytes

-- each of these changes of one byte gives bytes that `Spells` rejects
abbrev pub EachChangeCounts : (List ℕ → Type 0) → List ℕ → List (ℕ × ℕ) → Type 0
EachChangeCounts Spells bytes [] = Unit {0}
EachChangeCounts Spells bytes (change ∷ changes) = (¬ Spells (with_byte change.0 change.1 bytes)) × EachChangeCounts Spells bytes changes
