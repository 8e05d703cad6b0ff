-- The features and the kind of instructions that each instruction needs. By a rule of this project,
-- a body may use an instruction only if its features are enabled. A kind is a section of the
-- standard's chapter Structure, Instructions. By a rule of this project, the kinds of numeric,
-- vector and memory instructions each have a variant without floats.
use Rattle.std.specs.Prelude.{Bool, true, false, IsTrue, ◌&&◌, ◌||◌, ◌==◌, bit_and, if◌then◌else◌}
use Rattle.smith_instr.specs.Common.{Features}
use Rattle.smith_types.specs.Syntax.Instructions.{kind_bits, kinds_bits}
use Rattle.smith_types.specs.Syntax.instruction_kind.InstructionKind.{InstructionKind}
use Rattle.smith_types.specs.Syntax.instruction_kind.InstructionKind.TheVariants as kind
use Rattle.smith_types.specs.Syntax.instruction_kind.InstructionKinds.{InstructionKinds}
use Rattle.smith_instr.specs.declared.aggregate.AggregateInstr.{AggregateInstr}
use Rattle.smith_instr.specs.declared.aggregate.AggregateInstr.TheVariants as aggregate
use Rattle.smith_instr.specs.declared.control.BlockType.{BlockType}
use Rattle.smith_instr.specs.declared.control.BlockType.TheVariants as block
use Rattle.smith_instr.specs.declared.instr.Instr.{Instr}
use Rattle.smith_instr.specs.declared.instr.Instr.TheVariants as instr
use Rattle.smith_instr.specs.declared.memory.Load.{Load}
use Rattle.smith_instr.specs.declared.memory.Load.TheVariants as load
use Rattle.smith_instr.specs.declared.memory.Store.{Store}
use Rattle.smith_instr.specs.declared.memory.Store.TheVariants as store
use Rattle.smith_instr.specs.declared.memory.MemoryInstr.{MemoryInstr}
use Rattle.smith_instr.specs.declared.memory.MemoryInstr.TheVariants as memory
use Rattle.smith_instr.specs.declared.numeric.Conversion.{Conversion}
use Rattle.smith_instr.specs.declared.numeric.Conversion.TheVariants as convert
use Rattle.smith_instr.specs.declared.numeric.NumericInstr.{NumericInstr}
use Rattle.smith_instr.specs.declared.numeric.NumericInstr.TheVariants as numeric
use Rattle.smith_instr.specs.declared.reference.ReferenceInstr.{ReferenceInstr}
use Rattle.smith_instr.specs.declared.reference.ReferenceInstr.TheVariants as reference
use Rattle.smith_instr.specs.declared.table.TableInstr.{TableInstr}
use Rattle.smith_instr.specs.declared.table.TableInstr.TheVariants as table
use Rattle.smith_instr.specs.declared.vector.LaneShape.{LaneShape}
use Rattle.smith_instr.specs.declared.vector.LaneShape.TheVariants as shape
use Rattle.smith_instr.specs.declared.vector.VectorInstr.{VectorInstr}
use Rattle.smith_instr.specs.declared.vector.VectorInstr.TheVariants as vector
use Rattle.smith_instr.specs.VectorTypes.{extracted}

-- whether a conversion concerns floats (own rule)
abbrev pub has_floats : Conversion → Bool
has_floats convert.I32WrapI64 = false
has_floats convert.I64ExtendI32S = false
has_floats convert.I64ExtendI32U = false
has_floats _ = true

-- the kind of a numeric instruction: with or without floats (own rule)
abbrev pub numeric_kind : NumericInstr → InstructionKind
numeric_kind (numeric.F32Unary op) = kind.Numeric
numeric_kind (numeric.F64Unary op) = kind.Numeric
numeric_kind (numeric.F32Binary op) = kind.Numeric
numeric_kind (numeric.F64Binary op) = kind.Numeric
numeric_kind (numeric.F32Compare op) = kind.Numeric
numeric_kind (numeric.F64Compare op) = kind.Numeric
numeric_kind (numeric.Convert op) = if has_floats op then kind.Numeric else kind.NumericInt
numeric_kind (numeric.Saturate op) = kind.Numeric
numeric_kind _ = kind.NumericInt

-- the kind of an instruction on lanes: with or without floats (own rule)
abbrev pub lane_kind : LaneShape → InstructionKind
lane_kind shape.F32x4 = kind.Vector
lane_kind shape.F64x2 = kind.Vector
lane_kind _ = kind.VectorInt

-- the kind of a vector instruction: with or without floats (own rule)
abbrev pub vector_kind : VectorInstr → InstructionKind
vector_kind (vector.FloatUnary op) = kind.Vector
vector_kind (vector.FloatBinary op) = kind.Vector
vector_kind (vector.Splat ty) = lane_kind ty
vector_kind (vector.ExtractLane op lane) = lane_kind (extracted op)
vector_kind (vector.ReplaceLane ty lane) = lane_kind ty
vector_kind (vector.RelaxedFloatUnary op) = kind.Vector
vector_kind (vector.RelaxedFloatBinary op) = kind.Vector
vector_kind (vector.RelaxedFloatTernary op) = kind.Vector
vector_kind _ = kind.VectorInt

-- the kind of a load: with or without floats (own rule)
abbrev pub load_kind : Load → InstructionKind
load_kind load.F32 = kind.Memory
load_kind load.F64 = kind.Memory
load_kind _ = kind.MemoryInt

-- the kind of a store: with or without floats (own rule)
abbrev pub store_kind : Store → InstructionKind
store_kind store.F32 = kind.Memory
store_kind store.F64 = kind.Memory
store_kind _ = kind.MemoryInt

-- The kind of an instruction: its section of chapter Structure, Instructions. `nop` and
-- `unreachable`, which the standard has among the parametric instructions, count as control; atomic
-- accesses, which the standard lacks, count as memory (own rules).
abbrev pub instr_kind : Instr → InstructionKind
instr_kind instr.Drop = kind.Parametric
instr_kind instr.Select = kind.Parametric
instr_kind (instr.SelectTyped values) = kind.Parametric
instr_kind (instr.LocalGet index) = kind.Variable
instr_kind (instr.LocalSet index) = kind.Variable
instr_kind (instr.LocalTee index) = kind.Variable
instr_kind (instr.GlobalGet index) = kind.Variable
instr_kind (instr.GlobalSet index) = kind.Variable
instr_kind (instr.I32Const value) = kind.NumericInt
instr_kind (instr.I64Const value) = kind.NumericInt
instr_kind (instr.F32Const bits) = kind.Numeric
instr_kind (instr.F64Const bits) = kind.Numeric
instr_kind (instr.V128Const bits) = kind.VectorInt
instr_kind (instr.Numeric op) = numeric_kind op
instr_kind (instr.Reference op) = kind.Reference
instr_kind (instr.Table op) = kind.Table
instr_kind (instr.Load op at) = load_kind op
instr_kind (instr.Store op at) = store_kind op
instr_kind (instr.Memory op) = kind.MemoryInt
instr_kind (instr.Aggregate op) = kind.Aggregate
instr_kind (instr.Vector op) = vector_kind op
instr_kind (instr.VectorLoad op at) = kind.MemoryInt
instr_kind (instr.VectorStore at) = kind.MemoryInt
instr_kind (instr.VectorLoadLane log2_bytes at lane) = kind.MemoryInt
instr_kind (instr.VectorStoreLane log2_bytes at lane) = kind.MemoryInt
instr_kind (instr.Atomic op at) = kind.MemoryInt
instr_kind instr.AtomicFence = kind.MemoryInt
instr_kind _ = kind.Control

-- whether a numeric instruction is enabled (own rule)
abbrev pub is_numeric_enabled : Features → NumericInstr → Bool
is_numeric_enabled features (numeric.Saturate op) = features.saturating_float_to_int
is_numeric_enabled features (numeric.Extend op) = features.sign_extension
is_numeric_enabled features (numeric.Wide op) = features.wide_arithmetic
is_numeric_enabled features _ = true

-- whether a reference instruction is enabled (own rule)
abbrev pub is_reference_enabled : Features → ReferenceInstr → Bool
is_reference_enabled features (reference.Null heap_type) = features.reference_types
is_reference_enabled features (reference.Func function) = features.reference_types
is_reference_enabled features reference.IsNull = features.reference_types
is_reference_enabled features reference.AsNonNull = features.function_references
is_reference_enabled features _ = features.gc

-- whether a table instruction is enabled (own rule)
abbrev pub is_table_enabled : Features → TableInstr → Bool
is_table_enabled features (table.Copy to from) = features.bulk_memory
is_table_enabled features (table.Init index segment) = features.bulk_memory
is_table_enabled features (table.ElemDrop segment) = features.bulk_memory
is_table_enabled features _ = features.reference_types

-- whether an instruction on a whole memory or a data segment is enabled (own rule)
abbrev pub is_memory_enabled : Features → MemoryInstr → Bool
is_memory_enabled features (memory.Size index) = true
is_memory_enabled features (memory.Grow index) = true
is_memory_enabled features _ = features.bulk_memory

-- whether an aggregate instruction is enabled (own rule); one that names a data segment requires
-- bulk memory too, because its module has a data count section
abbrev pub is_aggregate_enabled : Features → AggregateInstr → Bool
is_aggregate_enabled features aggregate.RefI31Shared = features.gc && features.shared_everything_threads
is_aggregate_enabled features (aggregate.ArrayNewData ty segment) = features.gc && features.bulk_memory
is_aggregate_enabled features (aggregate.ArrayInitData ty segment) = features.gc && features.bulk_memory
is_aggregate_enabled features _ = features.gc

-- whether a vector instruction is enabled (own rule)
abbrev pub is_vector_enabled : Features → VectorInstr → Bool
is_vector_enabled features (vector.RelaxedFloatUnary op) = features.simd && features.relaxed_simd
is_vector_enabled features (vector.RelaxedBinary op) = features.simd && features.relaxed_simd
is_vector_enabled features (vector.RelaxedFloatBinary op) = features.simd && features.relaxed_simd
is_vector_enabled features (vector.RelaxedTernary op) = features.simd && features.relaxed_simd
is_vector_enabled features (vector.RelaxedFloatTernary op) = features.simd && features.relaxed_simd
is_vector_enabled features _ = features.simd

-- whether a block type is enabled: a type index requires multi-value (own rule)
abbrev pub is_block_enabled : Features → BlockType → Bool
is_block_enabled features (block.Func index) = features.multi_value
is_block_enabled features _ = true

-- whether the features that an instruction requires are enabled (own rule)
abbrev pub has_features : Features → Instr → Bool
has_features features (instr.Block ty) = is_block_enabled features ty
has_features features (instr.Loop ty) = is_block_enabled features ty
has_features features (instr.If ty) = is_block_enabled features ty
has_features features (instr.TryTable ty clauses) = is_block_enabled features ty && features.exceptions
has_features features (instr.Throw tag) = features.exceptions
has_features features instr.ThrowRef = features.exceptions
has_features features (instr.BrOnNull label) = features.function_references
has_features features (instr.BrOnNonNull label) = features.function_references
has_features features (instr.BrOnCast cast) = features.gc
has_features features (instr.BrOnCastFail cast) = features.gc
has_features features (instr.CallRef ty) = features.function_references
has_features features (instr.ReturnCall function) = features.tail_call
has_features features (instr.ReturnCallIndirect index ty) = features.tail_call
has_features features (instr.ReturnCallRef ty) = features.tail_call && features.function_references
has_features features (instr.SelectTyped values) = features.reference_types
has_features features (instr.V128Const bits) = features.simd
has_features features (instr.Numeric op) = is_numeric_enabled features op
has_features features (instr.Reference op) = is_reference_enabled features op
has_features features (instr.Table op) = is_table_enabled features op
has_features features (instr.Memory op) = is_memory_enabled features op
has_features features (instr.Aggregate op) = is_aggregate_enabled features op
has_features features (instr.Vector op) = is_vector_enabled features op
has_features features (instr.VectorLoad op at) = features.simd
has_features features (instr.VectorStore at) = features.simd
has_features features (instr.VectorLoadLane log2_bytes at lane) = features.simd
has_features features (instr.VectorStoreLane log2_bytes at lane) = features.simd
has_features features (instr.Atomic op at) = features.threads
has_features features instr.AtomicFence = features.threads
has_features features _ = true

-- whether `kinds` contains a kind (own rule)
abbrev pub is_allowed : InstructionKinds → InstructionKind → Bool
is_allowed kinds wanted = bit_and (kinds_bits kinds) (kind_bits wanted) == kind_bits wanted

-- whether every set of kinds allows an instruction (own rule): without `unreachable` some function
-- types have no body, and without `else` and `end` there are no blocks
abbrev pub is_always_allowed : Instr → Bool
is_always_allowed instr.Unreachable = true
is_always_allowed instr.Else = true
is_always_allowed instr.End = true
is_always_allowed _ = false

-- whether a set of kinds allows an instruction (own rule)
abbrev pub is_kind_enabled : InstructionKinds → Instr → Bool
is_kind_enabled kinds instruction = is_always_allowed instruction || is_allowed kinds (instr_kind instruction)

-- whether an instruction is enabled (own rule)
unfoldable pub is_enabled : Features → InstructionKinds → Instr → Bool
is_enabled features kinds instruction = has_features features instruction && is_kind_enabled kinds instruction

abbrev pub IsEnabled : Features → InstructionKinds → Instr → Type 0
IsEnabled features kinds instruction = IsTrue (is_enabled features kinds instruction)

-- whether an instruction names a data segment, so that its module has a data count section (Binary
-- Format, Modules)
abbrev pub names_data : Instr → Bool
names_data (instr.Memory (memory.Init index segment)) = true
names_data (instr.Memory (memory.DataDrop segment)) = true
names_data (instr.Aggregate (aggregate.ArrayNewData ty segment)) = true
names_data (instr.Aggregate (aggregate.ArrayInitData ty segment)) = true
names_data _ = false
