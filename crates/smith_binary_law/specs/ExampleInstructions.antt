-- Instructions of the examples.
use Rattle.std.specs.Prelude.{ℕ, true, false}
use Rattle.smith_types.specs.Syntax.value_type.AbstractHeapType.TheVariants as heap
use Rattle.smith_types.specs.Syntax.value_type.HeapType.TheVariants.{Abstract}
use Rattle.smith_types.specs.Syntax.value_type.RefType.{RefType}
use Rattle.smith_instr.specs.declared.control.BranchCast.{BranchCast}
use Rattle.smith_instr.specs.declared.instr.Instr.{Instr}
use Rattle.smith_instr.specs.declared.instr.Instr.TheVariants as instr
use Rattle.smith_instr.specs.declared.memory.Load.TheVariants as load
use Rattle.smith_instr.specs.declared.numeric.IntBinary.TheVariants as int_binary
use Rattle.smith_instr.specs.declared.numeric.NumericInstr.TheVariants as numeric
use Rattle.smith_instr.specs.declared.numeric.SaturatingConversion.TheVariants as saturate
use Rattle.smith_instr.specs.declared.vector.IntShape.TheVariants as shape
use Rattle.smith_instr.specs.declared.vector.VectorInstr.TheVariants as vector

-- `i32.add`, `i32.trunc_sat_f64_u` and `i16x8.all_true`
abbrev pub add : Instr
add = instr.Numeric (numeric.I32Binary int_binary.Add)

abbrev pub saturating : Instr
saturating = instr.Numeric (numeric.Saturate saturate.I32TruncSatF64U)

abbrev pub all_true : Instr
all_true = instr.Vector (vector.AllTrue shape.I16x8)

-- `i32.load` with the logarithm of an alignment, an offset and a memory
abbrev pub load_word : ℕ → ℕ → ℕ → Instr
load_word align offset memory = instr.Load load.I32 (record { align = align; offset = offset; memory = memory })

-- the types `anyref` and `(ref i31)`, and a branch to the label 7 on a cast of one to the other
abbrev pub any_reference : RefType
any_reference = record { nullable = true; heap_type = Abstract false heap.Any }

abbrev pub some_i31 : RefType
some_i31 = record { nullable = false; heap_type = Abstract false heap.I31 }

abbrev pub cast : BranchCast
cast = record { label = 7; from = any_reference; to = some_i31 }
