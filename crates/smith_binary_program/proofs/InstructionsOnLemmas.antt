-- Typed bodies have the forms of enabled features alone.
use Rattle.smith_binary_program.proofs.Common.{[], All, All-cons, All-nil, All-same, arith, BlockType, BodyContext, Bool, false, Features}
use Rattle.smith_binary_program.proofs.Common.{HasInstrType, Instr, IsBlockType, IsTrue, IsValTypeEnabled, IsValTypeValid, length, List}
use Rattle.smith_binary_program.proofs.Common.{MemoryType, refl, slice_get, slice_get_within, sym, TableType, true, ValType, ℕ, ◌<◌, ◌∙◌}
use Rattle.smith_binary_program.proofs.Common.{◌∷◌, ◌≡◌, ◌≤◌}
use Rattle.std.proofs.Common.{◌^◌}
use Rattle.std.specs.Prelude.{if◌then◌else◌, Some}
use Rattle.smith_instr.specs.MemoryTypes.{HasAtomicType, HasMemoryType, IsAccess}
use Rattle.smith_instr.specs.ReferenceTypes.{HasReferenceType, HasTableType}
use Rattle.smith_instr.specs.declared.atomic.AtomicAccess.{AtomicAccess}
use Rattle.smith_instr.specs.declared.atomic.AtomicAccess.TheVariants as atomic
use Rattle.smith_instr.specs.declared.control.BlockType.TheVariants as block_type
use Rattle.smith_instr.specs.declared.instr.Instr.TheVariants as instr
use Rattle.smith_instr.specs.declared.memory.MemArg.{MemArg}
use Rattle.smith_instr.specs.declared.memory.MemoryInstr.{MemoryInstr}
use Rattle.smith_instr.specs.declared.memory.MemoryInstr.TheVariants as memory
use Rattle.smith_instr.specs.declared.reference.ReferenceInstr.{ReferenceInstr}
use Rattle.smith_instr.specs.declared.reference.ReferenceInstr.TheVariants as reference
use Rattle.smith_instr.specs.declared.table.TableInstr.{TableInstr}
use Rattle.smith_instr.specs.declared.table.TableInstr.TheVariants as table
use Rattle.smith_decode.specs.Forms.{AreMemoriesEnabled, AreNamedEnabled, AreReferencesEnabled, AreStatedEnabled, AreTablesEnabled}
use Rattle.smith_decode.specs.Forms.{IsBlockTypeEnabled, IsMemArgEnabled, IsMemoryNameEnabled, IsTableNameEnabled}
use Rattle.smith_binary_program.proofs.TypesOnLemmas.{at_index, heap_on, ref_on, val_on}
use Rattle.smith_binary_program.proofs.WalkLemmas.{IsKept}

-- the features that more than one table or memory, and a 64-bit memory, require
pub record AreSpacesOn (features : Features) (tables : List TableType) (memories : List MemoryType) : Type 0 where
  pub several_tables : 1 < length tables → IsTrue features.reference_types
  pub several_memories : 1 < length memories → IsTrue features.multi_memory
  pub wide : All (λ (memory : MemoryType). IsTrue memory.memory64 → IsTrue features.memory64) memories

-- the indices of memories and tables
memory_on : {features : Features} {tables : List TableType} {memories : List MemoryType} → AreSpacesOn features tables memories
    → (index : ℕ) (one : MemoryType) → slice_get memories index ≡ Some one → IsMemoryNameEnabled features index
memory_on {memories = memories} on index one there =
    λ other. on.several_memories (omega (arith, slice_get_within memories index one there, other))

table_on : {features : Features} {tables : List TableType} {memories : List MemoryType} → AreSpacesOn features tables memories
    → (index : ℕ) (one : TableType) → slice_get tables index ≡ Some one → IsTableNameEnabled features index
table_on {tables = tables} on index one there =
    λ other. on.several_tables (omega (arith, slice_get_within tables index one there, other))

offset_on : (features : Features) (wide : Bool) (offset : ℕ) → (IsTrue wide → IsTrue features.memory64)
    → offset < (if wide then 2 ^ 64 else 2 ^ 32) → 2 ^ 32 ≤ offset → IsTrue features.memory64
offset_on features true offset on inside far = on refl
offset_on features false offset on inside far = absurd (omega (arith, inside, far))

access_on : {features : Features} {tables : List TableType} {memories : List MemoryType} → AreSpacesOn features tables memories
    → {wide : Bool} (at : MemArg) → IsAccess memories at wide → IsMemArgEnabled features at
access_on {features = features} {memories = memories} on {wide} at access =
    let IsOn : MemoryType → Type 0 = λ one. IsTrue one.memory64 → IsTrue features.memory64 in
    let found : IsOn access.memory = at_index IsOn memories at.memory access.memory on.wide access.there in
    record {
      memory = memory_on on at.memory access.memory access.there;
      offset = offset_on features wide at.offset (λ is. found (sym access.addressed ∙ is)) access.offset;
    }

atomic_on : (context : BodyContext) → AreSpacesOn context.features context.tables context.memories → (op : AtomicAccess) (at : MemArg)
    (operands results : List ValType)
    → HasAtomicType context op at operands results → IsMemArgEnabled context.features at
atomic_on context on atomic.Notify at operands results h = access_on on at h.1.0
atomic_on context on atomic.Wait32 at operands results h = access_on on at h.1.0
atomic_on context on atomic.Wait64 at operands results h = access_on on at h.1.0
atomic_on context on (atomic.Load op) at operands results h = access_on on at h.1.0
atomic_on context on (atomic.Store op) at operands results h = access_on on at h.1.0
atomic_on context on (atomic.Update update op) at operands results h = access_on on at h.1.0
atomic_on context on (atomic.CompareExchange op) at operands results h = access_on on at h.1.0

memories_on : (context : BodyContext) → AreSpacesOn context.features context.tables context.memories → (op : MemoryInstr)
    (operands results : List ValType)
    → HasMemoryType context op operands results → AreMemoriesEnabled context.features op
memories_on context on (memory.Size index) operands results h = memory_on on index h.0 h.1
memories_on context on (memory.Grow index) operands results h = memory_on on index h.0 h.1
memories_on context on (memory.Fill index) operands results h = memory_on on index h.0 h.1
memories_on context on (memory.Copy to from) operands results h =
    (memory_on on to h.0 h.2, memory_on on from h.1 h.3)
memories_on context on (memory.Init index segment) operands results h = memory_on on index h.0 h.1
memories_on context on (memory.DataDrop segment) operands results h = tt

tables_on : (context : BodyContext) → AreSpacesOn context.features context.tables context.memories → (op : TableInstr)
    (operands results : List ValType)
    → HasTableType context op operands results → AreTablesEnabled context.features op
tables_on context on (table.Copy to from) operands results h = (table_on on to h.0 h.2, table_on on from h.1 h.3)
tables_on context on (table.Init index segment) operands results h = table_on on index h.0 h.2
tables_on context on _ operands results h = tt

named_on : (context : BodyContext) → AreSpacesOn context.features context.tables context.memories → (set : List ℕ) (x : Instr)
    (operands results : List ValType)
    → HasInstrType context set x operands results → AreNamedEnabled context.features x
named_on context on set (instr.CallIndirect index ty) operands results h = table_on on index h.2.table h.2.there
named_on context on set (instr.ReturnCallIndirect index ty) operands results h = table_on on index h.2.table h.2.there
named_on context on set (instr.Table op) operands results h = tables_on context on op operands results h
named_on context on set (instr.Memory op) operands results h = memories_on context on op operands results h
named_on context on set (instr.Load op at) operands results h = access_on on at h.1.0
named_on context on set (instr.Store op at) operands results h = access_on on at h.1.0
named_on context on set (instr.VectorLoad op at) operands results h = access_on on at h.1.0
named_on context on set (instr.VectorStore at) operands results h = access_on on at h.1.0
named_on context on set (instr.VectorLoadLane log2_bytes at lane) operands results h = access_on on at h.1.0
named_on context on set (instr.VectorStoreLane log2_bytes at lane) operands results h = access_on on at h.1.0
named_on context on set (instr.Atomic op at) operands results h = atomic_on context on op at operands results h
named_on context on set _ operands results h = tt

-- the types that an instruction states
references_on : (context : BodyContext) (op : ReferenceInstr) (operands results : List ValType)
    → HasReferenceType context op operands results → AreReferencesEnabled context.features op
references_on context (reference.Null heap) operands results h = heap_on context.features (length context.types) heap h.0
references_on context (reference.Test to) operands results h = ref_on context.features (length context.types) to h.1
references_on context (reference.Cast to) operands results h = ref_on context.features (length context.types) to h.1
references_on context _ operands results h = tt

block_on : (context : BodyContext) (ty : BlockType) (params results : List ValType) → IsBlockType context ty params results
    → IsBlockTypeEnabled context.features ty
block_on context block_type.Empty params results h = tt
block_on context (block_type.Func index) params results h = tt
block_on context (block_type.Value value) params results h = val_on context.features (length context.types) value h.0

one_on : (features : Features) (end : ℕ) (value : ValType) → IsValTypeValid features end value
    → All (IsValTypeEnabled features) (value ∷ [])
one_on features end value valid =
    All-cons (IsValTypeEnabled features) value [] (val_on features end value valid) (All-nil (IsValTypeEnabled features))

stated_on : (context : BodyContext) (set : List ℕ) (x : Instr) (operands results : List ValType)
    → HasInstrType context set x operands results → AreStatedEnabled context.features x
stated_on context set (instr.Block ty) operands results h = absurd h
stated_on context set (instr.Loop ty) operands results h = absurd h
stated_on context set (instr.If ty) operands results h = absurd h
stated_on context set (instr.TryTable ty clauses) operands results h = absurd h
stated_on context set (instr.BrOnCast cast) operands results h =
    let end = length context.types in
    (ref_on context.features end cast.from h.1.from_valid, ref_on context.features end cast.to h.1.to_valid)
stated_on context set (instr.BrOnCastFail cast) operands results h =
    let end = length context.types in
    (ref_on context.features end cast.from h.1.from_valid, ref_on context.features end cast.to h.1.to_valid)
stated_on context set (instr.SelectTyped values) operands results h =
    All-same (IsValTypeEnabled context.features) values (h.0 ∷ []) h.1 (one_on context.features (length context.types) h.0 h.2)
stated_on context set (instr.Reference op) operands results h = references_on context op operands results h
stated_on context set _ operands results h = tt

-- what each instruction of a typed body has
abbrev pub IsFormOn : BodyContext → Instr → Type 0
IsFormOn context x = AreSpacesOn context.features context.tables context.memories
    → AreStatedEnabled context.features x × AreNamedEnabled context.features x

pub form_kept : IsKept IsFormOn
form_kept = record {
  steps = λ context set x operands results h. λ on.
      (stated_on context set x operands results h, named_on context on set x operands results h);
  blocks = λ context ty params results fits.
      let is = block_on context ty params results fits in (λ on. (is, tt), λ on. (is, tt), λ on. (is, tt));
  tries = λ context ty clauses params results fits. λ on. (block_on context ty params results fits, tt);
  others = λ context. (λ on. (tt, tt), λ on. (tt, tt));
  within = λ context taken x is. is;
}
