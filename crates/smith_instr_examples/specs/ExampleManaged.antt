-- The context of the examples on references, structs, arrays, tables and calls.
use Rattle.std.specs.Prelude.{ℕ, true, List, [], ◌∷◌}
use Rattle.smith_types.specs.ExampleTypes.{constant, final_type, func, not_null, nullable, plain, shared_type, struct, taking, variable}
use Rattle.smith_types.specs.Flags.{funcref}
use Rattle.smith_types.specs.Syntax.composite_type.CompositeInnerType.TheVariants.{Array, Func}
use Rattle.smith_types.specs.Syntax.composite_type.FuncType.{FuncType}
use Rattle.smith_types.specs.Syntax.composite_type.StorageType.TheVariants.{I8, I16, Val}
use Rattle.smith_types.specs.Syntax.composite_type.SubType.{SubType}
use Rattle.smith_types.specs.Syntax.entity_type.TableType.{TableType}
use Rattle.smith_types.specs.Syntax.value_type.AbstractHeapType.TheVariants as heap
use Rattle.smith_types.specs.Syntax.value_type.HeapType.TheVariants.{Abstract, Concrete}
use Rattle.smith_types.specs.Syntax.value_type.RefType.{RefType}
use Rattle.smith_types.specs.Syntax.value_type.ValType.{ValType}
use Rattle.smith_types.specs.Syntax.value_type.ValType.TheVariants.{I32, I64, Ref}
use Rattle.smith_instr.specs.Contexts.{BodyContext}
use Rattle.smith_instr.specs.declared.control.BranchCast.{BranchCast}
use Rattle.smith_instr_examples.specs.ExampleBodies.{function_of, functions, some_func}

-- any internal reference, and any but null; any external reference; a struct of the first type
-- below, or null, and such a struct
abbrev pub anything : RefType
anything = nullable (plain heap.Any)

abbrev pub something : RefType
something = not_null (plain heap.Any)

abbrev pub external : RefType
external = nullable (plain heap.Extern)

abbrev pub any_struct : RefType
any_struct = nullable (Concrete 0)

abbrev pub some_struct : RefType
some_struct = not_null (Concrete 0)

-- a table of external references, and a table of functions with addresses of 64 bits
abbrev pub externals : TableType
externals = record functions { element_type = external }

abbrev pub wide_functions : TableType
wide_functions = record functions { table64 = true }

-- a function type from an i64 to an i32
abbrev pub narrows : FuncType
narrows = func I64 I32

-- a struct of a constant packed field and a variable i64; a struct without a default; arrays of
-- variable i32, of constant packed integers, of variable references to functions, and of constant
-- ones that are not null; a function type from an i64 to an i32, and one from an i32 to nothing
abbrev pub managed_types : List SubType
managed_types =
    final_type (struct (constant I8 ∷ variable (Val I64) ∷ []))
    ∷ final_type (struct (constant (Val some_func) ∷ []))
    ∷ final_type (Array (record { 0 = variable (Val I32) }))
    ∷ final_type (Array (record { 0 = constant I8 }))
    ∷ final_type (Array (record { 0 = variable (Val (Ref funcref)) }))
    ∷ final_type (Array (record { 0 = constant (Val some_func) }))
    ∷ final_type (Func narrows)
    ∷ final_type (taking (I32 ∷ []))
    ∷ []

-- a function over these types, with these labels, the innermost first, and these results. There are
-- a function of either function type, tables of functions, of external references, and of functions
-- by addresses of 64 bits, a tag with an i32, element segments of functions, of external references,
-- and of functions that are not null, and a data segment
abbrev pub managed : List (List ValType) → List ValType → BodyContext
managed labels results = record (function_of [] results) {
  types = managed_types;
  funcs = 6 ∷ 7 ∷ [];
  tables = functions ∷ externals ∷ wide_functions ∷ [];
  tags = 7 ∷ [];
  elems = funcref ∷ external ∷ not_null (plain heap.Func) ∷ [];
  labels = labels;
}

-- the immediates of a branch to a label if a reference of one type is of another
abbrev pub casting : ℕ → RefType → RefType → BranchCast
casting label from to = record { label = label; from = from; to = to }

-- a table of shared functions
abbrev pub shared_functions : TableType
shared_functions = record functions { element_type = nullable (Abstract true heap.Func) }

-- a function over shared types: a struct of a constant packed field of 16 bits and a variable i64,
-- an array of variable i32, and a function type from an i64 to an i32; with a table of shared
-- functions
abbrev pub sharing : BodyContext
sharing = record (managed [] []) {
  types =
      shared_type (struct (constant I16 ∷ variable (Val I64) ∷ []))
      ∷ shared_type (Array (record { 0 = variable (Val I32) }))
      ∷ shared_type (Func narrows)
      ∷ [];
  tables = shared_functions ∷ [];
}
