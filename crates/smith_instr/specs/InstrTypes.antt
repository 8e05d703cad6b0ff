-- The types of instructions: the section Validation, Instructions, of the WebAssembly Core
-- Specification 3.0.
use Rattle.std.specs.Prelude.{◌≡◌, ℕ, Bool, true, false, List, [], ◌∷◌, ◌++◌, Some, slice_get, All, if◌then◌else◌}
use Rattle.smith_types.specs.Entities.{IsFuncAt}
use Rattle.smith_instr.specs.Common.{Abstract, Concrete, F32, F64, HeapType, I32, I64, IsRefBelow, Ref, reference_to, RefType, TableType}
use Rattle.smith_instr.specs.Common.{V128, ValType}
use Rattle.smith_types.specs.Syntax.value_type.AbstractHeapType.TheVariants as abstract
use Rattle.smith_types.specs.Syntax.composite_type.FuncType.{FuncType}
use Rattle.smith_types.specs.Syntax.entity_type.GlobalType.{GlobalType}
use Rattle.smith_instr.specs.AggregateTypes.{HasAggregateType}
use Rattle.smith_instr.specs.Contexts.{BodyContext, IsValid, AreValid, IsHeapValid, IsRefValid, AreBelow, IsLocalSet, IsFunction, IsTag, To}
use Rattle.smith_instr.specs.Contexts.{address, nullable_to}
use Rattle.smith_instr.specs.MemoryTypes.{HasLoadType, HasStoreType, HasVectorLoadType, HasVectorStoreType, HasLaneType, HasMemoryType}
use Rattle.smith_instr.specs.MemoryTypes.{HasAtomicType}
use Rattle.smith_instr.specs.NumericTypes.{signature}
use Rattle.smith_instr.specs.ReferenceTypes.{HasReferenceType, HasTableType, IsTable}
use Rattle.smith_instr.specs.VectorTypes.{HasVectorType}
use Rattle.smith_instr.specs.declared.control.BranchCast.{BranchCast}
use Rattle.smith_instr.specs.declared.control.Catch.{Catch}
use Rattle.smith_instr.specs.declared.control.Catch.TheVariants as catch
use Rattle.smith_instr.specs.declared.instr.Instr.{Instr}
use Rattle.smith_instr.specs.declared.instr.Instr.TheVariants as instr

-- a value type is a number type or a vector type (Validation, Parametric Instructions, select)
abbrev pub IsNumberOrVector : ValType → Type 0
IsNumberOrVector (Ref reference) = ⊥
IsNumberOrVector _ = Unit {0}

-- the locals that an instruction sets (Validation, Variable Instructions)
abbrev pub sets : Instr → List ℕ
sets (instr.LocalSet index) = index ∷ []
sets (instr.LocalTee index) = index ∷ []
sets _ = []

-- the label exists, and `taken` are its operand types (Validation, Control Instructions, br)
abbrev pub IsLabel : BodyContext → ℕ → List ValType → Type 0
IsLabel context label taken = slice_get context.labels label ≡ Some taken

-- the label exists, and these types match its operand types (Validation, Control Instructions, br)
abbrev pub IsTaken : BodyContext → List ValType → ℕ → Type 0
IsTaken context values label = (taken : List ValType) × IsLabel context label taken × AreBelow context values taken

-- a stack-polymorphic instruction: its operands are any types followed by `taken`, and its results
-- any valid types (Validation, Instructions, polymorphic instructions)
abbrev pub Leaves : BodyContext → List ValType → List ValType → List ValType → Type 0
Leaves context operands results taken = (below : List ValType) × (operands ≡ below ++ taken) × AreValid context results

-- the results of `function` match the results of the body's function (Validation, Control
-- Instructions, return_call)
abbrev pub ReturnsFrom : BodyContext → FuncType → Type 0
ReturnsFrom context function = AreBelow context function.results context.results

-- the table exists, and has this address type and function references as elements (Validation,
-- Control Instructions, call_indirect), shared or not (own rule)
pub record IsFunctionTable (context : BodyContext) (index : ℕ) (wide : Bool) : Type 0 where
  pub table : TableType
  pub there : IsTable context index table
  pub addressed : wide ≡ table.table64
  pub shared : Bool
  pub of_functions : IsRefBelow context.types table.element_type (record { nullable = true; heap_type = Abstract shared abstract.Func })

-- the clause's label takes the values that the clause passes (Validation, Control Instructions,
-- Catch Clauses)
abbrev pub IsCatch : BodyContext → Catch → Type 0
IsCatch context (catch.One tag label) = (values : List ValType) × IsTag context tag values × IsTaken context values label
IsCatch context (catch.OneRef tag label) =
    (values : List ValType) × IsTag context tag values × IsTaken context (values ++ reference_to (Abstract false abstract.Exn) ∷ []) label
IsCatch context (catch.All label) = IsTaken context [] label
IsCatch context (catch.AllRef label) = IsTaken context (reference_to (Abstract false abstract.Exn) ∷ []) label

-- the type difference: the type of a reference whose cast fails, non-nullable if the cast accepts
-- null (Validation, Conventions, Types, type difference)
abbrev pub difference : RefType → RefType → RefType
difference from to = record from { nullable = if to.nullable then false else from.nullable }

-- the types of the cast are valid, its target type is a subtype of its source type, and the label
-- takes `others` and then a reference that `branches` matches (Validation, Control Instructions,
-- br_on_cast and br_on_cast_fail)
pub record IsBranchCast (context : BodyContext) (cast : BranchCast) (branches : RefType) (others : List ValType) : Type 0 where
  pub from_valid : IsRefValid context cast.from
  pub to_valid : IsRefValid context cast.to
  pub below : IsRefBelow context.types cast.to cast.from
  pub wanted : RefType
  pub taken : IsLabel context cast.label (others ++ Ref wanted ∷ [])
  pub arrives : IsRefBelow context.types branches wanted

-- An instruction has the type [operands] → [results], with the last operand on top, where the
-- locals in `set` are set (Validation, Instructions). `AreTyped` types blocks, loops, ifs and
-- try_tables. There is no bottom type, so br_table and select in unreachable code are typed more
-- strictly than in the standard.
abbrev pub HasInstrType : BodyContext → List ℕ → Instr → List ValType → List ValType → Type 0
HasInstrType context set instr.Unreachable operands results = Leaves context operands results []
HasInstrType context set instr.Nop operands results = To operands results [] []
HasInstrType context set (instr.Block ty) operands results = ⊥
HasInstrType context set (instr.Loop ty) operands results = ⊥
HasInstrType context set (instr.If ty) operands results = ⊥
HasInstrType context set instr.Else operands results = ⊥
HasInstrType context set instr.End operands results = ⊥
HasInstrType context set (instr.TryTable ty clauses) operands results = ⊥
HasInstrType context set (instr.Throw tag) operands results = (values : List ValType) × IsTag context tag values
    × Leaves context operands results values
HasInstrType context set instr.ThrowRef operands results = Leaves context operands results (nullable_to (Abstract false abstract.Exn) ∷ [])
HasInstrType context set (instr.Br label) operands results =
    (taken : List ValType) × IsLabel context label taken × Leaves context operands results taken
HasInstrType context set (instr.BrIf label) operands results =
    (taken : List ValType) × IsLabel context label taken × To operands results (taken ++ I32 ∷ []) taken
HasInstrType context set (instr.BrTable labels other) operands results =
    (taken : List ValType) × All (IsTaken context taken) labels × IsTaken context taken other × Leaves context operands results
    (taken ++ I32 ∷ [])
HasInstrType context set (instr.BrOnNull label) operands results =
    (taken : List ValType) × (heap_type : HeapType) × IsLabel context label taken × IsHeapValid context heap_type
    × To operands results (taken ++ nullable_to heap_type ∷ []) (taken ++ reference_to heap_type ∷ [])
HasInstrType context set (instr.BrOnNonNull label) operands results =
    (others : List ValType) × (reference : RefType) × IsLabel context label (others ++ Ref reference ∷ [])
    × To operands results (others ++ nullable_to reference.heap_type ∷ []) others
HasInstrType context set (instr.BrOnCast cast) operands results =
    (others : List ValType) × IsBranchCast context cast cast.to others
    × To operands results (others ++ Ref cast.from ∷ []) (others ++ Ref (difference cast.from cast.to) ∷ [])
HasInstrType context set (instr.BrOnCastFail cast) operands results =
    (others : List ValType) × IsBranchCast context cast (difference cast.from cast.to) others
    × To operands results (others ++ Ref cast.from ∷ []) (others ++ Ref cast.to ∷ [])
HasInstrType context set instr.Return operands results = Leaves context operands results context.results
HasInstrType context set (instr.Call index) operands results =
    (function : FuncType) × IsFunction context index function × To operands results function.params function.results
HasInstrType context set (instr.CallIndirect table ty) operands results =
    (function : FuncType) × (wide : Bool) × IsFunctionTable context table wide × IsFuncAt context.types ty function
    × To operands results (function.params ++ address wide ∷ []) function.results
HasInstrType context set (instr.CallRef ty) operands results =
    (function : FuncType) × IsFuncAt context.types ty function × To operands results (function.params ++ nullable_to (Concrete ty) ∷ [])
    function.results
HasInstrType context set (instr.ReturnCall index) operands results =
    (function : FuncType) × IsFunction context index function × ReturnsFrom context function
    × Leaves context operands results function.params
HasInstrType context set (instr.ReturnCallIndirect table ty) operands results =
    (function : FuncType) × (wide : Bool) × IsFunctionTable context table wide × IsFuncAt context.types ty function
    × ReturnsFrom context function
    × Leaves context operands results (function.params ++ address wide ∷ [])
HasInstrType context set (instr.ReturnCallRef ty) operands results =
    (function : FuncType) × IsFuncAt context.types ty function × ReturnsFrom context function
    × Leaves context operands results (function.params ++ nullable_to (Concrete ty) ∷ [])
HasInstrType context set instr.Drop operands results = (value : ValType) × To operands results (value ∷ []) []
HasInstrType context set instr.Select operands results =
    (value : ValType) × IsNumberOrVector value × To operands results (value ∷ value ∷ I32 ∷ []) (value ∷ [])
HasInstrType context set (instr.SelectTyped values) operands results =
    (value : ValType) × (values ≡ value ∷ []) × IsValid context value × To operands results (value ∷ value ∷ I32 ∷ []) (value ∷ [])
HasInstrType context set (instr.LocalGet index) operands results =
    (value : ValType) × IsLocalSet context set index value × To operands results [] (value ∷ [])
HasInstrType context set (instr.LocalSet index) operands results =
    (value : ValType) × (slice_get context.locals index ≡ Some value) × To operands results (value ∷ []) []
HasInstrType context set (instr.LocalTee index) operands results =
    (value : ValType) × (slice_get context.locals index ≡ Some value) × To operands results (value ∷ []) (value ∷ [])
HasInstrType context set (instr.GlobalGet index) operands results =
    (global : GlobalType) × (slice_get context.globals index ≡ Some global) × To operands results [] (global.val_type ∷ [])
HasInstrType context set (instr.GlobalSet index) operands results =
    (global : GlobalType) × (slice_get context.globals index ≡ Some global) × (global.mutable ≡ true)
    × To operands results (global.val_type ∷ []) []
HasInstrType context set (instr.I32Const value) operands results = To operands results [] (I32 ∷ [])
HasInstrType context set (instr.I64Const value) operands results = To operands results [] (I64 ∷ [])
HasInstrType context set (instr.F32Const bits) operands results = To operands results [] (F32 ∷ [])
HasInstrType context set (instr.F64Const bits) operands results = To operands results [] (F64 ∷ [])
HasInstrType context set (instr.V128Const bits) operands results = To operands results [] (V128 ∷ [])
HasInstrType context set (instr.Numeric op) operands results = To operands results (signature op).operands (signature op).results
HasInstrType context set (instr.Reference op) operands results = HasReferenceType context op operands results
HasInstrType context set (instr.Table op) operands results = HasTableType context op operands results
HasInstrType context set (instr.Load op at) operands results = HasLoadType context op at operands results
HasInstrType context set (instr.Store op at) operands results = HasStoreType context op at operands results
HasInstrType context set (instr.Memory op) operands results = HasMemoryType context op operands results
HasInstrType context set (instr.Aggregate op) operands results = HasAggregateType context op operands results
HasInstrType context set (instr.Vector op) operands results = HasVectorType op operands results
HasInstrType context set (instr.VectorLoad op at) operands results = HasVectorLoadType context op at operands results
HasInstrType context set (instr.VectorStore at) operands results = HasVectorStoreType context at operands results
HasInstrType context set (instr.VectorLoadLane log2_bytes at lane) operands results = HasLaneType context log2_bytes at lane
    (V128 ∷ []) operands results
HasInstrType context set (instr.VectorStoreLane log2_bytes at lane) operands results = HasLaneType context log2_bytes at lane [] operands
    results
HasInstrType context set (instr.Atomic op at) operands results = HasAtomicType context op at operands results
HasInstrType context set instr.AtomicFence operands results = To operands results [] []
