-- A body stays typed in a module with more globals.
use Rattle.smith_program.proofs.Common.{All-weaker, AreTyped, block, BodyContext, GlobalType, HasInstrType, if_alone, if_else, Instr}
use Rattle.smith_program.proofs.Common.{IsBodyTyped, List, loop, nothing, slice_get-grown, Stacked, step, try_table, ValType, ℕ, ◌++◌}
use Rattle.smith_instr.specs.AggregateTypes.{HasAggregateType, IsFieldAt, IsElemOf}
use Rattle.smith_instr.specs.InstrTypes.{IsBranchCast, IsCatch, IsFunctionTable}
use Rattle.smith_instr.specs.MemoryTypes.{HasAtomicType, HasMemoryType}
use Rattle.smith_instr.specs.ReferenceTypes.{HasReferenceType, HasTableType}
use Rattle.smith_instr.specs.Sequences.{CountsAs, IsFramed}
use Rattle.smith_instr.specs.declared.aggregate.AggregateInstr.{AggregateInstr}
use Rattle.smith_instr.specs.declared.aggregate.AggregateInstr.TheVariants as aggregate
use Rattle.smith_instr.specs.declared.atomic.AtomicAccess.{AtomicAccess}
use Rattle.smith_instr.specs.declared.control.BranchCast.{BranchCast}
use Rattle.smith_instr.specs.declared.control.Catch.{Catch}
use Rattle.smith_instr.specs.declared.control.Catch.TheVariants as catch
use Rattle.smith_instr.specs.declared.instr.Instr.TheVariants as instr
use Rattle.smith_instr.specs.declared.memory.MemArg.{MemArg}
use Rattle.smith_instr.specs.declared.memory.MemoryInstr.{MemoryInstr}
use Rattle.smith_instr.specs.declared.reference.ReferenceInstr.{ReferenceInstr}
use Rattle.smith_instr.specs.declared.table.TableInstr.{TableInstr}
use Rattle.smith_types.specs.Syntax.composite_type.FieldType.{FieldType}
use Rattle.smith_types.specs.Syntax.value_type.RefType.{RefType}

-- a context with more globals
abbrev pub wider : BodyContext → List GlobalType → BodyContext
wider context more = record context { globals = context.globals ++ more }

wider_counts : {context : BodyContext} {values given : List ValType} (more : List GlobalType) → CountsAs context values given
    → CountsAs (wider context more) values given
wider_counts more c = record { below = c.below; valid = c.valid }

wider_framed : {context : BodyContext} {operands results : List ValType} {set : List ℕ} {before after : Stacked} (more : List GlobalType)
    → IsFramed context operands results set before after → IsFramed (wider context more) operands results set before after
wider_framed more f = record {
  rest = f.rest;
  taken = f.taken;
  given = f.given;
  under = f.under;
  accepted = f.accepted;
  offered = wider_counts more f.offered;
  over = f.over;
  set_then = f.set_then;
}

wider_field : {context : BodyContext} {ty index : ℕ} {field : FieldType} (more : List GlobalType) → IsFieldAt context ty index field
    → IsFieldAt (wider context more) ty index field
wider_field more h = record { fields = h.fields; structure = h.structure; there = h.there }

wider_segment : {context : BodyContext} {segment : ℕ} {element : FieldType} (more : List GlobalType) → IsElemOf context segment element
    → IsElemOf (wider context more) segment element
wider_segment more h = record { held = h.held; there = h.there; reference = h.reference; of_references = h.of_references; below = h.below }

wider_aggregate : (context : BodyContext) (more : List GlobalType) (op : AggregateInstr) (operands results : List ValType)
    → HasAggregateType context op operands results → HasAggregateType (wider context more) op operands results
wider_aggregate context more (aggregate.StructGet ty index extension) operands results (field, at, read, to) =
    (field, wider_field more at, read, to)
wider_aggregate context more (aggregate.StructSet ty index) operands results (field, at, mutable, to) =
    (field, wider_field more at, mutable, to)
wider_aggregate context more (aggregate.ArrayNewElem ty segment) operands results (element, array, of, to) =
    (element, array, wider_segment more of, to)
wider_aggregate context more (aggregate.ArrayInitElem ty segment) operands results (element, array, mutable, of, to) =
    (element, array, mutable, wider_segment more of, to)
wider_aggregate context more _ operands results typed = typed

wider_reference : (context : BodyContext) (more : List GlobalType) (op : ReferenceInstr) (operands results : List ValType)
    → HasReferenceType context op operands results → HasReferenceType (wider context more) op operands results
wider_reference context more _ operands results typed = typed

wider_table : (context : BodyContext) (more : List GlobalType) (op : TableInstr) (operands results : List ValType)
    → HasTableType context op operands results → HasTableType (wider context more) op operands results
wider_table context more _ operands results typed = typed

wider_memory : (context : BodyContext) (more : List GlobalType) (op : MemoryInstr) (operands results : List ValType)
    → HasMemoryType context op operands results → HasMemoryType (wider context more) op operands results
wider_memory context more _ operands results typed = typed

wider_atomic : (context : BodyContext) (more : List GlobalType) (op : AtomicAccess) (at : MemArg) (operands results : List ValType)
    → HasAtomicType context op at operands results → HasAtomicType (wider context more) op at operands results
wider_atomic context more _ at operands results typed = typed

wider_cast : {context : BodyContext} {cast : BranchCast} {branches : RefType} {others : List ValType} (more : List GlobalType)
    → IsBranchCast context cast branches others → IsBranchCast (wider context more) cast branches others
wider_cast more h = record {
  from_valid = h.from_valid;
  to_valid = h.to_valid;
  below = h.below;
  wanted = h.wanted;
  taken = h.taken;
  arrives = h.arrives;
}

wider_function_table : {context : BodyContext} {index : ℕ} {wide : _} (more : List GlobalType) → IsFunctionTable context index wide
    → IsFunctionTable (wider context more) index wide
wider_function_table more h = record {
  table = h.table;
  there = h.there;
  addressed = h.addressed;
  shared = h.shared;
  of_functions = h.of_functions;
}

-- an instruction stays typed with more globals, since the first ones keep their indices
wider_instr : (context : BodyContext) (more : List GlobalType) (set : List ℕ) (instruction : Instr) (operands results : List ValType)
    → HasInstrType context set instruction operands results → HasInstrType (wider context more) set instruction operands results
wider_instr context more set (instr.BrOnCast cast) operands results (others, h, to) = (others, wider_cast more h, to)
wider_instr context more set (instr.BrOnCastFail cast) operands results (others, h, to) = (others, wider_cast more h, to)
wider_instr context more set (instr.CallIndirect table ty) operands results (function, wide, at, of, to) =
    (function, wide, wider_function_table more at, of, to)
wider_instr context more set (instr.ReturnCallIndirect table ty) operands results (function, wide, at, of, gives, to) =
    (function, wide, wider_function_table more at, of, gives, to)
wider_instr context more set (instr.GlobalGet index) operands results (global, at, to) =
    (global, slice_get-grown context.globals more index global at, to)
wider_instr context more set (instr.GlobalSet index) operands results (global, at, mutable, to) =
    (global, slice_get-grown context.globals more index global at, mutable, to)
wider_instr context more set (instr.Reference op) operands results typed = wider_reference context more op operands results typed
wider_instr context more set (instr.Table op) operands results typed = wider_table context more op operands results typed
wider_instr context more set (instr.Memory op) operands results typed = wider_memory context more op operands results typed
wider_instr context more set (instr.Aggregate op) operands results typed = wider_aggregate context more op operands results typed
wider_instr context more set (instr.Atomic op at) operands results typed = wider_atomic context more op at operands results typed
wider_instr context more set _ operands results typed = typed

wider_catch : (context : BodyContext) (more : List GlobalType) (clause : Catch) → IsCatch context clause
    → IsCatch (wider context more) clause
wider_catch context more (catch.One tag label) caught = caught
wider_catch context more (catch.OneRef tag label) caught = caught
wider_catch context more (catch.All label) caught = caught
wider_catch context more (catch.AllRef label) caught = caught

-- a sequence stays typed with more globals
wider_typed : {context : BodyContext} {xs : List Instr} {before after : Stacked} (more : List GlobalType) → AreTyped context xs before after
    → AreTyped (wider context more) xs before after
wider_typed more (nothing others same) = nothing (wider_counts more others) same
wider_typed {context = context} more (step {instruction = instruction} {before = before} s rest) =
    step (record {
      operands = s.operands;
      results = s.results;
      typed = wider_instr context more before.set instruction s.operands s.results
          s.typed;
      framed = wider_framed more s.framed;
    }) (wider_typed more rest)
wider_typed more (block is fits inner framed rest) = block is fits (wider_typed more inner) (wider_framed more framed)
    (wider_typed more rest)
wider_typed more (loop is fits inner framed rest) = loop is fits (wider_typed more inner) (wider_framed more framed) (wider_typed more rest)
wider_typed more (if_alone is fits inner same framed rest) = if_alone is fits (wider_typed more inner) (wider_counts more same)
    (wider_framed more framed) (wider_typed more rest)
wider_typed more (if_else is fits inner last framed rest) = if_else is fits (wider_typed more inner) (wider_typed more last)
    (wider_framed more framed) (wider_typed more rest)
wider_typed {context = context} more (try_table {clauses = clauses} is fits caught inner framed rest) =
    try_table is fits (All-weaker (IsCatch context) (IsCatch (wider context more)) (wider_catch context more) clauses caught)
    (wider_typed more inner) (wider_framed more framed) (wider_typed more rest)

pub wider_body : (context : BodyContext) (more : List GlobalType) (body : List Instr) → IsBodyTyped context body
    → IsBodyTyped (wider context more) body
wider_body context more body typed = record { set = typed.set; typed = wider_typed more typed.typed }
