-- With the features that bodies require, each body is enabled.
use Rattle.smith_decode.proofs.Common.{[], Bool, false, Features, Instr, List, refl, true, ValType, ◌∷◌}
use Rattle.std.specs.Prelude.{All, IsTrue, ◌&&◌}
use Rattle.std.proofs.lemmas.List.Elements.{All-cons, All-nil}
use Rattle.smith_types.specs.Syntax.value_type.AbstractHeapType.{AbstractHeapType}
use Rattle.smith_types.specs.Syntax.value_type.AbstractHeapType.TheVariants as abstract
use Rattle.smith_types.specs.Syntax.value_type.HeapType.{HeapType}
use Rattle.smith_types.specs.Syntax.value_type.HeapType.TheVariants.{Abstract, Concrete, Exact}
use Rattle.smith_types.specs.Syntax.value_type.RefType.{RefType}
use Rattle.smith_types.specs.Syntax.value_type.ValType.TheVariants.{Ref, V128}
use Rattle.smith_types.specs.Flags.{IsAbstractEnabled, IsHeapTypeEnabled}
use Rattle.smith_instr.specs.Enabled.{has_features, is_aggregate_enabled, is_block_enabled, is_memory_enabled, is_numeric_enabled}
use Rattle.smith_instr.specs.Enabled.{is_reference_enabled, is_table_enabled, is_vector_enabled}
use Rattle.smith_instr.specs.declared.aggregate.AggregateInstr.{AggregateInstr}
use Rattle.smith_instr.specs.declared.aggregate.AggregateInstr.TheVariants as aggregate
use Rattle.smith_instr.specs.declared.control.BlockType.{BlockType}
use Rattle.smith_instr.specs.declared.control.BlockType.TheVariants as block
use Rattle.smith_instr.specs.declared.instr.Instr.TheVariants as instr
use Rattle.smith_instr.specs.declared.memory.MemArg.{MemArg}
use Rattle.smith_instr.specs.declared.memory.MemoryInstr.{MemoryInstr}
use Rattle.smith_instr.specs.declared.memory.MemoryInstr.TheVariants as memory
use Rattle.smith_instr.specs.declared.numeric.NumericInstr.{NumericInstr}
use Rattle.smith_instr.specs.declared.numeric.NumericInstr.TheVariants as numeric
use Rattle.smith_instr.specs.declared.reference.ReferenceInstr.{ReferenceInstr}
use Rattle.smith_instr.specs.declared.reference.ReferenceInstr.TheVariants as reference
use Rattle.smith_instr.specs.declared.table.TableInstr.{TableInstr}
use Rattle.smith_instr.specs.declared.table.TableInstr.TheVariants as table
use Rattle.smith_instr.specs.declared.vector.VectorInstr.{VectorInstr}
use Rattle.smith_instr.specs.declared.vector.VectorInstr.TheVariants as vector
use Rattle.smith_decode.specs.declared.bodies.Body.{Body}
use Rattle.smith_decode.specs.declared.bodies.LocalRun.{LocalRun}
use Rattle.smith_decode.specs.Forms.{AreMemoriesEnabled, AreNamedEnabled, AreReferencesEnabled, AreStatedEnabled, AreTablesEnabled}
use Rattle.smith_decode.specs.Forms.{HasBodyFeatures, IsBlockTypeEnabled, IsBodyEnabled, IsInstrEnabled, IsMemArgEnabled}
use Rattle.smith_decode.specs.TypeForms.{IsRefTypeEnabled, IsValTypeEnabled}

-- a property of everything
all_have : {A : Type 0} (P : A → Type 0) → ((x : A) → P x) → (xs : List A) → All P xs
all_have P each [] = All-nil P
all_have P each (x ∷ xs) = All-cons P x xs (each x) (all_have P each xs)

both : (a b : Bool) → IsTrue a → IsTrue b → IsTrue (a && b)
both true b first second = second
both false b first second = cc

abstract_enabled : (features : Features) → HasBodyFeatures features → (ty : AbstractHeapType) → IsAbstractEnabled features ty
abstract_enabled features h abstract.Func = tt
abstract_enabled features h abstract.Extern = tt
abstract_enabled features h abstract.Exn = h.0.exceptions
abstract_enabled features h abstract.NoExn = (h.0.exceptions, h.0.gc)
abstract_enabled features h _ = h.0.gc

heap_type_enabled : (features : Features) → HasBodyFeatures features → (ty : HeapType) → IsHeapTypeEnabled features ty
heap_type_enabled features h (Abstract shared ty) = (abstract_enabled features h ty, λ is. h.0.shared)
heap_type_enabled features h (Concrete index) = h.0.gc
heap_type_enabled features h (Exact index) = h.0.custom_descriptors

ref_type_enabled : (features : Features) → HasBodyFeatures features → (ty : RefType) → IsRefTypeEnabled features ty
ref_type_enabled features h ty = record { heap_type = heap_type_enabled features h ty.heap_type; nullable = λ is. h.0.function_references }

val_type_enabled : (features : Features) → HasBodyFeatures features → (ty : ValType) → IsValTypeEnabled features ty
val_type_enabled features h V128 = h.0.simd
val_type_enabled features h (Ref reference) = (h.0.reference_types, ref_type_enabled features h reference)
val_type_enabled features h _ = tt

-- the features of an instruction
block_has : (features : Features) → HasBodyFeatures features → (ty : BlockType) → IsTrue (is_block_enabled features ty)
block_has features h (block.Func index) = h.1.multi_value
block_has features h _ = refl

numeric_has : (features : Features) → HasBodyFeatures features → (op : NumericInstr) → IsTrue (is_numeric_enabled features op)
numeric_has features h (numeric.Saturate op) = h.1.saturating_float_to_int
numeric_has features h (numeric.Extend op) = h.1.sign_extension
numeric_has features h (numeric.Wide op) = h.1.wide_arithmetic
numeric_has features h _ = refl

reference_has : (features : Features) → HasBodyFeatures features → (op : ReferenceInstr) → IsTrue (is_reference_enabled features op)
reference_has features h (reference.Null heap_type) = h.0.reference_types
reference_has features h (reference.Func function) = h.0.reference_types
reference_has features h reference.IsNull = h.0.reference_types
reference_has features h reference.AsNonNull = h.0.function_references
reference_has features h _ = h.0.gc

table_has : (features : Features) → HasBodyFeatures features → (op : TableInstr) → IsTrue (is_table_enabled features op)
table_has features h (table.Copy to from) = h.1.bulk_memory
table_has features h (table.Init index segment) = h.1.bulk_memory
table_has features h (table.ElemDrop segment) = h.1.bulk_memory
table_has features h _ = h.0.reference_types

memory_has : (features : Features) → HasBodyFeatures features → (op : MemoryInstr) → IsTrue (is_memory_enabled features op)
memory_has features h (memory.Size index) = refl
memory_has features h (memory.Grow index) = refl
memory_has features h _ = h.1.bulk_memory

aggregate_has : (features : Features) → HasBodyFeatures features → (op : AggregateInstr) → IsTrue (is_aggregate_enabled features op)
aggregate_has features h aggregate.RefI31Shared = both features.gc features.shared_everything_threads h.0.gc h.0.shared
aggregate_has features h (aggregate.ArrayNewData ty segment) = both features.gc features.bulk_memory h.0.gc h.1.bulk_memory
aggregate_has features h (aggregate.ArrayInitData ty segment) = both features.gc features.bulk_memory h.0.gc h.1.bulk_memory
aggregate_has features h _ = h.0.gc

vector_has : (features : Features) → HasBodyFeatures features → (op : VectorInstr) → IsTrue (is_vector_enabled features op)
vector_has features h (vector.RelaxedFloatUnary op) = both features.simd features.relaxed_simd h.0.simd h.1.relaxed_simd
vector_has features h (vector.RelaxedBinary op) = both features.simd features.relaxed_simd h.0.simd h.1.relaxed_simd
vector_has features h (vector.RelaxedFloatBinary op) = both features.simd features.relaxed_simd h.0.simd h.1.relaxed_simd
vector_has features h (vector.RelaxedTernary op) = both features.simd features.relaxed_simd h.0.simd h.1.relaxed_simd
vector_has features h (vector.RelaxedFloatTernary op) = both features.simd features.relaxed_simd h.0.simd h.1.relaxed_simd
vector_has features h _ = h.0.simd

has_all : (features : Features) → HasBodyFeatures features → (instruction : Instr) → IsTrue (has_features features instruction)
has_all features h (instr.Block ty) = block_has features h ty
has_all features h (instr.Loop ty) = block_has features h ty
has_all features h (instr.If ty) = block_has features h ty
has_all features h (instr.TryTable ty clauses) =
    both (is_block_enabled features ty) features.exceptions (block_has features h ty) h.0.exceptions
has_all features h (instr.Numeric op) = numeric_has features h op
has_all features h (instr.Reference op) = reference_has features h op
has_all features h (instr.Table op) = table_has features h op
has_all features h (instr.Memory op) = memory_has features h op
has_all features h (instr.Aggregate op) = aggregate_has features h op
has_all features h (instr.Vector op) = vector_has features h op
has_all features h (instr.Throw tag) = h.0.exceptions
has_all features h instr.ThrowRef = h.0.exceptions
has_all features h (instr.BrOnNull label) = h.0.function_references
has_all features h (instr.BrOnNonNull label) = h.0.function_references
has_all features h (instr.BrOnCast cast) = h.0.gc
has_all features h (instr.BrOnCastFail cast) = h.0.gc
has_all features h (instr.CallRef ty) = h.0.function_references
has_all features h (instr.ReturnCall function) = h.1.tail_call
has_all features h (instr.ReturnCallIndirect index ty) = h.1.tail_call
has_all features h (instr.ReturnCallRef ty) = both features.tail_call features.function_references h.1.tail_call h.0.function_references
has_all features h (instr.SelectTyped values) = h.0.reference_types
has_all features h (instr.V128Const bits) = h.0.simd
has_all features h (instr.VectorLoad op at) = h.0.simd
has_all features h (instr.VectorStore at) = h.0.simd
has_all features h (instr.VectorLoadLane log2_bytes at lane) = h.0.simd
has_all features h (instr.VectorStoreLane log2_bytes at lane) = h.0.simd
has_all features h (instr.Atomic op at) = h.1.threads
has_all features h instr.AtomicFence = h.1.threads
has_all features h _ = refl

-- the types in an instruction
block_type_enabled : (features : Features) → HasBodyFeatures features → (ty : BlockType) → IsBlockTypeEnabled features ty
block_type_enabled features h (block.Value value) = val_type_enabled features h value
block_type_enabled features h _ = tt

references_enabled : (features : Features) → HasBodyFeatures features → (op : ReferenceInstr) → AreReferencesEnabled features op
references_enabled features h (reference.Null heap_type) = heap_type_enabled features h heap_type
references_enabled features h (reference.Test to) = ref_type_enabled features h to
references_enabled features h (reference.Cast to) = ref_type_enabled features h to
references_enabled features h _ = tt

stated_enabled : (features : Features) → HasBodyFeatures features → (instruction : Instr) → AreStatedEnabled features instruction
stated_enabled features h (instr.Block ty) = block_type_enabled features h ty
stated_enabled features h (instr.Loop ty) = block_type_enabled features h ty
stated_enabled features h (instr.If ty) = block_type_enabled features h ty
stated_enabled features h (instr.TryTable ty clauses) = block_type_enabled features h ty
stated_enabled features h (instr.BrOnCast cast) = (ref_type_enabled features h cast.from, ref_type_enabled features h cast.to)
stated_enabled features h (instr.BrOnCastFail cast) = (ref_type_enabled features h cast.from, ref_type_enabled features h cast.to)
stated_enabled features h (instr.SelectTyped values) = all_have (IsValTypeEnabled features) (val_type_enabled features h) values
stated_enabled features h (instr.Reference op) = references_enabled features h op
stated_enabled features h _ = tt

-- the memories and tables that an instruction names
mem_arg_enabled : (features : Features) → HasBodyFeatures features → (at : MemArg) → IsMemArgEnabled features at
mem_arg_enabled features h at = record { memory = λ is. h.1.multi_memory; offset = λ is. h.1.memory64 }

memories_enabled : (features : Features) → HasBodyFeatures features → (op : MemoryInstr) → AreMemoriesEnabled features op
memories_enabled features h (memory.Copy to from) = (λ is. h.1.multi_memory, λ is. h.1.multi_memory)
memories_enabled features h (memory.DataDrop segment) = tt
memories_enabled features h (memory.Init index segment) = λ is. h.1.multi_memory
memories_enabled features h (memory.Size index) = λ is. h.1.multi_memory
memories_enabled features h (memory.Grow index) = λ is. h.1.multi_memory
memories_enabled features h (memory.Fill index) = λ is. h.1.multi_memory

tables_enabled : (features : Features) → HasBodyFeatures features → (op : TableInstr) → AreTablesEnabled features op
tables_enabled features h (table.Copy to from) = (λ is. h.0.reference_types, λ is. h.0.reference_types)
tables_enabled features h (table.Init index segment) = λ is. h.0.reference_types
tables_enabled features h _ = tt

named_enabled : (features : Features) → HasBodyFeatures features → (instruction : Instr) → AreNamedEnabled features instruction
named_enabled features h (instr.CallIndirect table ty) = λ is. h.0.reference_types
named_enabled features h (instr.ReturnCallIndirect table ty) = λ is. h.0.reference_types
named_enabled features h (instr.Table op) = tables_enabled features h op
named_enabled features h (instr.Memory op) = memories_enabled features h op
named_enabled features h (instr.Load op at) = mem_arg_enabled features h at
named_enabled features h (instr.Store op at) = mem_arg_enabled features h at
named_enabled features h (instr.VectorLoad op at) = mem_arg_enabled features h at
named_enabled features h (instr.VectorStore at) = mem_arg_enabled features h at
named_enabled features h (instr.VectorLoadLane log2_bytes at lane) = mem_arg_enabled features h at
named_enabled features h (instr.VectorStoreLane log2_bytes at lane) = mem_arg_enabled features h at
named_enabled features h (instr.Atomic access at) = mem_arg_enabled features h at
named_enabled features h _ = tt

instr_enabled : (features : Features) → HasBodyFeatures features → (instruction : Instr) → IsInstrEnabled features instruction
instr_enabled features h instruction =
    let own = has_all features h instruction in
    record { own = own; stated = stated_enabled features h instruction; named = named_enabled features h instruction }

body_enabled : (features : Features) → HasBodyFeatures features → (body : Body) → IsBodyEnabled features body
body_enabled features h body = record {
  locals = all_have (λ (run : LocalRun). IsValTypeEnabled features run.ty) (λ run. val_type_enabled features h run.ty) body.locals;
  instructions = all_have (IsInstrEnabled features) (instr_enabled features h) body.instructions;
}

-- with these features, all bodies are enabled
pub bodies_enabled : (features : Features) (bodies : List Body) → HasBodyFeatures features → All (IsBodyEnabled features) bodies
bodies_enabled features bodies h = all_have (IsBodyEnabled features) (body_enabled features h) bodies
