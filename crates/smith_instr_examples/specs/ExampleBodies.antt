-- Contexts and instructions of the examples.
use Rattle.std.specs.Prelude.{ℕ, true, false, List, [], ◌∷◌, pos, None}
use Rattle.smith_types.specs.ExampleFeatures.{usual_features}
use Rattle.smith_types.specs.ExampleTypes.{func, final_type, plain_func, struct, taking, constant, variable, not_null, nullable, plain}
use Rattle.smith_types.specs.ExampleEntities.{constant_global, variable_global}
use Rattle.smith_types.specs.Flags.{funcref}
use Rattle.smith_types.specs.Syntax.value_type.AbstractHeapType.TheVariants as heap
use Rattle.smith_types.specs.Syntax.value_type.ValType.{ValType}
use Rattle.smith_types.specs.Syntax.value_type.ValType.TheVariants.{I32, I64, Ref}
use Rattle.smith_types.specs.Syntax.composite_type.StorageType.TheVariants.{I8, Val}
use Rattle.smith_types.specs.Syntax.composite_type.CompositeInnerType.TheVariants.{Array, Func}
use Rattle.smith_types.specs.Syntax.composite_type.FuncType.{FuncType}
use Rattle.smith_types.specs.Syntax.entity_type.MemoryType.{MemoryType}
use Rattle.smith_types.specs.Syntax.entity_type.TableType.{TableType}
use Rattle.smith_types.specs.Syntax.Instructions.{kind_bits}
use Rattle.smith_types.specs.Syntax.instruction_kind.InstructionKind.{InstructionKind}
use Rattle.smith_types.specs.Syntax.instruction_kind.InstructionKinds.{InstructionKinds}
use Rattle.smith_instr.specs.Contexts.{BodyContext}
use Rattle.smith_instr.specs.declared.instr.Instr.{Instr}
use Rattle.smith_instr.specs.declared.instr.Instr.TheVariants as instr
use Rattle.smith_instr.specs.declared.memory.MemArg.{MemArg}
use Rattle.smith_instr.specs.declared.numeric.NumericInstr.TheVariants as numeric
use Rattle.smith_instr.specs.declared.numeric.IntBinary.TheVariants.{Add}

-- a memory of one page with addresses of 32 bits, and one with addresses of 64 bits
abbrev pub narrow_memory : MemoryType
narrow_memory = record { minimum = 1; maximum = None; memory64 = false; shared = false; page_size_log2 = None }

abbrev pub wide_memory : MemoryType
wide_memory = record narrow_memory { memory64 = true }

-- a table of functions
abbrev pub functions : TableType
functions = record { element_type = funcref; minimum = 1; maximum = None; table64 = false; shared = false }

-- a non-nullable reference to a function
abbrev pub some_func : ValType
some_func = Ref (not_null (plain heap.Func))

-- a function type from such a reference to a nullable one
abbrev pub weakens : FuncType
weakens = func some_func (Ref funcref)

-- a function without parameters, with these locals and results. The types are a function type
-- without parameters, one with an i32, a struct of a constant packed field and a variable i64, an
-- array of variable i32, and a function type from a non-nullable reference to a nullable one. There
-- are two functions, of which `ref.func` may name the last; memories of either width, a table, a
-- constant global and a variable one, a tag with an i32, an element segment and a data segment
abbrev pub function_of : List ValType → List ValType → BodyContext
function_of locals results = record {
  features = usual_features;
  types = final_type plain_func ∷ final_type (taking (I32 ∷ [])) ∷ final_type (struct (constant I8 ∷ variable (Val I64) ∷ [])) ∷ final_type
      (Array (record { 0 = variable (Val I32) })) ∷ final_type (Func weakens) ∷ [];
  funcs = 0 ∷ 1 ∷ [];
  imported_funcs = 0;
  tables = functions ∷ [];
  memories = narrow_memory ∷ wide_memory ∷ [];
  globals = constant_global I32 ∷ variable_global I32 ∷ [];
  tags = 1 ∷ [];
  elems = funcref ∷ [];
  datas = 1;
  references = 1 ∷ [];
  locals = locals;
  params = 0;
  labels = [];
  results = results;
}

-- the type of references to any exception
abbrev pub exnref : ValType
exnref = Ref (nullable (plain heap.Exn))

-- the place of an access to the memory with this index, without an offset, with this binary
-- logarithm of an alignment
abbrev pub aligned : ℕ → ℕ → MemArg
aligned memory align = record { align = align; offset = 0; memory = memory }

abbrev pub number : ℕ → Instr
number n = instr.I32Const (pos n)

abbrev pub wide_number : ℕ → Instr
wide_number n = instr.I64Const (pos n)

abbrev pub add : Instr
add = instr.Numeric (numeric.I32Binary Add)

-- the set of only this kind
abbrev pub kinds_of : InstructionKind → InstructionKinds
kinds_of kind = record { 0 = kind_bits kind }
