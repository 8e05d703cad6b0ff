-- Contexts of the examples of choices, each a variation of that of `function_of`.
use Rattle.std.specs.Prelude.{true, false, List, [], ◌∷◌, ◌++◌, replicate}
use Rattle.smith_types.specs.ExampleEntities.{constant_global}
use Rattle.smith_types.specs.ExampleFeatures.{usual_features, without_gc}
use Rattle.smith_types.specs.ExampleTypes.{nullable, plain}
use Rattle.smith_types.specs.Flags.{funcref}
use Rattle.smith_types.specs.Syntax.entity_type.TableType.{TableType}
use Rattle.smith_types.specs.Syntax.value_type.AbstractHeapType.TheVariants as heap
use Rattle.smith_types.specs.Syntax.value_type.RefType.{RefType}
use Rattle.smith_types.specs.Syntax.value_type.ValType.{ValType}
use Rattle.smith_types.specs.Syntax.value_type.ValType.TheVariants.{I32, I64, Ref}
use Rattle.smith_instr.specs.Contexts.{BodyContext}
use Rattle.smith_instr_examples.specs.ExampleBodies.{function_of, functions}

-- a nullable external reference
abbrev pub external : RefType
external = nullable (plain heap.Extern)

-- a table of such references, and a table of functions with addresses of 64 bits
abbrev pub externals : TableType
externals = record functions { element_type = external }

abbrev pub wide_functions : TableType
wide_functions = record functions { table64 = true }

-- a context with these tables
abbrev pub holding : List TableType → BodyContext
holding tables = record (function_of [] []) { tables = tables }

-- a context with three tables, and element segments of functions and of external references
abbrev pub tabled : BodyContext
tabled = record (holding (functions ∷ externals ∷ wide_functions ∷ [])) { elems = funcref ∷ external ∷ [] }

-- a context with these labels, the innermost first
abbrev pub among : List (List ValType) → BodyContext
among labels = record (function_of [] []) { labels = labels }

-- a context with labels of no value, an i64, three i32, and an i32 and a reference to a function
abbrev pub labelled_four : BodyContext
labelled_four = among ([] ∷ (I64 ∷ []) ∷ (I32 ∷ I32 ∷ I32 ∷ []) ∷ (I32 ∷ Ref funcref ∷ []) ∷ [])

-- the context without reference types, without garbage collection, and without vectors
abbrev pub without_references : BodyContext → BodyContext
without_references context = record context { features = record usual_features { reference_types = false } }

abbrev pub unmanaged : BodyContext → BodyContext
unmanaged context = record context { features = without_gc }

abbrev pub without_vectors : BodyContext → BodyContext
without_vectors context = record context { features = record usual_features { simd = false } }

-- a context with 256 globals of an i64, and one of an i32
abbrev pub many_globals : BodyContext
many_globals = record (function_of [] []) { globals = replicate 256 (constant_global I64) ++ constant_global I32 ∷ [] }
