-- Contexts and types of the examples of structures, arrays and casts.
use Rattle.std.specs.Prelude.{ℕ, List, [], ◌∷◌, replicate}
use Rattle.smith_types.specs.ExampleFeatures.{without_gc}
use Rattle.smith_types.specs.ExampleTypes.{constant, empty_struct, final_type, not_null, nullable, plain, plain_func, struct, variable}
use Rattle.smith_types.specs.Flags.{funcref}
use Rattle.smith_types.specs.Syntax.composite_type.CompositeInnerType.TheVariants.{Array}
use Rattle.smith_types.specs.Syntax.composite_type.StorageType.TheVariants.{I8, Val}
use Rattle.smith_types.specs.Syntax.composite_type.SubType.{SubType}
use Rattle.smith_types.specs.Syntax.value_type.AbstractHeapType.{AbstractHeapType}
use Rattle.smith_types.specs.Syntax.value_type.AbstractHeapType.TheVariants as heap
use Rattle.smith_types.specs.Syntax.value_type.HeapType.TheVariants.{Concrete}
use Rattle.smith_types.specs.Syntax.value_type.ValType.{ValType}
use Rattle.smith_types.specs.Syntax.value_type.ValType.TheVariants.{I32, I64, Ref}
use Rattle.smith_instr.specs.Contexts.{BodyContext}
use Rattle.smith_instr_examples.specs.ExampleBodies.{function_of, some_func}

-- a function with these locals, over a struct of a constant packed field and a variable i64, a
-- struct of a reference without a default, and arrays of variable i32, of constant packed integers
-- and of variable references to functions
abbrev pub aggregates : List ValType → BodyContext
aggregates locals = record (function_of locals []) {
  types =
      final_type (struct (constant I8 ∷ variable (Val I64) ∷ []))
      ∷ final_type (struct (constant (Val some_func) ∷ []))
      ∷ final_type (Array (record { 0 = variable (Val I32) }))
      ∷ final_type (Array (record { 0 = constant I8 }))
      ∷ final_type (Array (record { 0 = variable (Val (Ref funcref)) }))
      ∷ [];
}

-- such a function, in which `ref.func` may name no function
abbrev pub unnamed : BodyContext
unnamed = record (aggregates []) { references = [] }

-- such a function without types
abbrev pub untyped : BodyContext
untyped = record unnamed { types = [] }

-- such a function without garbage collection
abbrev pub unmanaged : BodyContext
unmanaged = record (aggregates []) { features = without_gc }

-- a reference to the type with an index: non-nullable, then nullable
abbrev pub some : ℕ → ValType
some index = Ref (not_null (Concrete index))

abbrev pub any : ℕ → ValType
any index = Ref (nullable (Concrete index))

-- a reference to an abstract heap type: non-nullable, then nullable
abbrev pub some_of : AbstractHeapType → ValType
some_of ty = Ref (not_null (plain ty))

abbrev pub any_of : AbstractHeapType → ValType
any_of ty = Ref (nullable (plain ty))

-- locals: a number, a non-nullable struct, and nullable references to any struct and to any
-- external value
abbrev pub references : List ValType
references = I64 ∷ some 0 ∷ any_of heap.Struct ∷ any_of heap.Extern ∷ []

-- the context with labels of an i32 and a struct, and of an i64
abbrev pub branching : List ValType → BodyContext
branching locals = record (aggregates locals) { labels = (I32 ∷ any 0 ∷ []) ∷ (I64 ∷ []) ∷ [] }

-- the context without locals, with these labels
abbrev pub labelled_by : List (List ValType) → BodyContext
labelled_by labels = record (aggregates []) { labels = labels }

-- a function over structs: without fields; of a reference to such a struct; of a packed integer, an
-- i64 and such a reference; of a reference to the second; and of a reference to a function; and over
-- the type of a function, which `ref.func` may name
abbrev pub nested : BodyContext
nested = record (function_of [] []) {
  types =
      final_type empty_struct
      ∷ final_type (struct (constant (Val (some 0)) ∷ []))
      ∷ final_type (struct (constant I8 ∷ variable (Val I64) ∷ constant (Val (some 0)) ∷ []))
      ∷ final_type (struct (constant (Val (some 1)) ∷ []))
      ∷ final_type (struct (constant (Val some_func) ∷ []))
      ∷ final_type plain_func
      ∷ [];
  funcs = 5 ∷ [];
  references = 0 ∷ [];
}

-- a function over structs: without fields, of two references to such a struct, and of two references
-- to the second
abbrev pub paired : BodyContext
paired = record (function_of [] []) {
  types =
      final_type empty_struct
      ∷ final_type (struct (constant (Val (some 0)) ∷ constant (Val (some 0)) ∷ []))
      ∷ final_type (struct (constant (Val (some 1)) ∷ constant (Val (some 1)) ∷ []))
      ∷ [];
  funcs = [];
  references = [];
}

-- a function over a struct of a reference to a function, a struct of a reference to any struct, and
-- the type of a function, which `ref.func` may name
abbrev pub wrapped : BodyContext
wrapped = record (function_of [] []) {
  types =
      final_type (struct (constant (Val some_func) ∷ []))
      ∷ final_type (struct (constant (Val (some_of heap.Struct)) ∷ []))
      ∷ final_type plain_func
      ∷ [];
  funcs = 2 ∷ [];
  references = 0 ∷ [];
}

-- the type of a struct with this number of packed fields
abbrev pub with_fields : ℕ → SubType
with_fields count = final_type (struct (replicate count (constant I8)))
