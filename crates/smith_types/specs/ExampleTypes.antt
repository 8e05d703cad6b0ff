-- Types used by the examples.
use Rattle.std.specs.Prelude.{ℕ, true, false, List, [], ◌∷◌, Option, Some, None, length}
use Rattle.smith_types.specs.Common.{Abstract, AbstractHeapType, Array, CompositeInnerType, Concrete, FieldType, Func, FuncType, HeapType}
use Rattle.smith_types.specs.Common.{Range, Ref, RefType, StorageType, Struct, SubType, Val, ValType}
use Rattle.smith_syntax.specs.declared.value_type.AbstractHeapType.TheVariants as heap
use Rattle.smith_types.specs.GroupedTypes.{GroupedTypes}

-- an unshared type that is not final
abbrev pub open_type : Option ℕ → CompositeInnerType → SubType
open_type supertype inner = record { is_final = false; supertype = supertype; composite_type = record { inner = inner; shared = false } }

-- an unshared, final type without a supertype
abbrev pub final_type : CompositeInnerType → SubType
final_type inner = record { is_final = true; supertype = None; composite_type = record { inner = inner; shared = false } }

-- a shared, final type without a supertype
abbrev pub shared_type : CompositeInnerType → SubType
shared_type inner = record { is_final = true; supertype = None; composite_type = record { inner = inner; shared = true } }

-- a struct type with these fields
abbrev pub struct : List FieldType → CompositeInnerType
struct fields = Struct (record { fields = fields })

-- a struct type without fields
abbrev pub empty_struct : CompositeInnerType
empty_struct = Struct (record { fields = [] })

-- an array type with this element
abbrev pub array : FieldType → CompositeInnerType
array field = Array (record { 0 = field })

-- a function type without parameters and results
abbrev pub plain_func : CompositeInnerType
plain_func = Func (record { params = []; results = [] })

-- a struct type and a declared subtype of it
abbrev pub struct_and_below : List SubType
struct_and_below = open_type None empty_struct ∷ open_type (Some 0) empty_struct ∷ []

-- a struct type declared as its own subtype
abbrev pub below_itself : List SubType
below_itself = open_type (Some 0) empty_struct ∷ []

-- a final struct type and a declared subtype of it
abbrev pub below_final : List SubType
below_final = final_type empty_struct ∷ open_type (Some 0) empty_struct ∷ []

-- the range of indices of a group
abbrev pub range : ℕ → ℕ → Range ℕ
range from until = record { start = from; end = until }

-- an unshared abstract type
abbrev pub plain : AbstractHeapType → HeapType
plain ty = Abstract false ty

-- a nullable reference
abbrev pub nullable : HeapType → RefType
nullable heap_type = record { nullable = true; heap_type = heap_type }

-- a non-nullable reference
abbrev pub not_null : HeapType → RefType
not_null heap_type = record { nullable = false; heap_type = heap_type }

-- the value types anyref and eqref
abbrev pub anyref : ValType
anyref = Ref (nullable (plain heap.Any))

abbrev pub eqref : ValType
eqref = Ref (nullable (plain heap.Eq))

-- the value type anyref of shared references
abbrev pub shared_anyref : ValType
shared_anyref = Ref (nullable (Abstract true heap.Any))

-- a constant field and a mutable field
abbrev pub constant : StorageType → FieldType
constant ty = record { element_type = ty; mutable = false }

abbrev pub variable : StorageType → FieldType
variable ty = record { element_type = ty; mutable = true }

-- a function type with one parameter and one result
abbrev pub func : ValType → ValType → FuncType
func param result = record { params = param ∷ []; results = result ∷ [] }

-- a function type without parameters, with these results
abbrev pub giving : List ValType → CompositeInnerType
giving results = Func (record { params = []; results = results })

-- a function type with these parameters, without results
abbrev pub taking : List ValType → CompositeInnerType
taking params = Func (record { params = params; results = [] })

-- a constant field that holds a reference to the type at this index
abbrev pub refers_to : ℕ → FieldType
refers_to index = constant (Val (Ref (nullable (Concrete index))))

-- a struct type that refers to the type at index 1
abbrev pub referring_type : SubType
referring_type = final_type (struct (refers_to 1 ∷ []))

-- a struct type that refers to the next type, and that type
abbrev pub referring : List SubType
referring = referring_type ∷ final_type empty_struct ∷ []

-- a function type and a declared subtype of it
abbrev pub func_and_below : FuncType → FuncType → List SubType
func_and_below upper lower = open_type None (Func upper) ∷ open_type (Some 0) (Func lower) ∷ []

-- these types in one group
abbrev pub in_one_group : List SubType → GroupedTypes
in_one_group types = record { types = types; groups = range 0 (length types) ∷ [] }

-- the abstract heap types without a supertype
abbrev pub tops : List AbstractHeapType
tops = heap.Any ∷ heap.Func ∷ heap.Extern ∷ heap.Exn ∷ []

-- the abstract heap types directly below eq
abbrev pub kinds_of_values : List AbstractHeapType
kinds_of_values = heap.I31 ∷ heap.Struct ∷ heap.Array ∷ []
