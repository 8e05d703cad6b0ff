-- Groups of the examples.
use Rattle.std.specs.Prelude.{ℕ, List, [], ◌∷◌}
use Rattle.smith_types.specs.Syntax.composite_type.StorageType.TheVariants.{Val}
use Rattle.smith_types.specs.Syntax.composite_type.SubType.{SubType}
use Rattle.smith_types.specs.Syntax.value_type.HeapType.TheVariants.{Concrete}
use Rattle.smith_types.specs.Syntax.value_type.ValType.TheVariants.{Ref}
use Rattle.smith_types.specs.ExampleTypes.{final_type, plain_func, struct, constant, nullable}

-- a struct type whose only field is a reference to the type at this index
abbrev pub struct_of : ℕ → SubType
struct_of index = final_type (struct (constant (Val (Ref (nullable (Concrete index)))) ∷ []))

-- two groups, each of one function type
abbrev pub two_functions : List (List SubType)
two_functions = (final_type plain_func ∷ []) ∷ (final_type plain_func ∷ []) ∷ []

-- two groups of two types, each of which refers to the other type of its group
abbrev pub two_pairs : List (List SubType)
two_pairs = (struct_of 1 ∷ struct_of 0 ∷ []) ∷ (struct_of 3 ∷ struct_of 2 ∷ []) ∷ []

-- a type that refers to itself, and one that refers to that type
abbrev pub own_and_earlier : List (List SubType)
own_and_earlier = (struct_of 0 ∷ []) ∷ (struct_of 0 ∷ []) ∷ []
