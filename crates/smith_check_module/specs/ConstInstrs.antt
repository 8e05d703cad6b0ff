-- Instructions of constant expressions among all instructions: the section Validation, Instructions,
-- Constant Expressions, of the WebAssembly Core Specification 3.0.
use Rattle.std.specs.Prelude.{◌≡◌, ℕ, List, Option, Some, None}
use Rattle.smith_check_module.specs.Common.{canonical_index, ConstInstr, Context, Instr, ValType}
use Rattle.smith_types.specs.Syntax.const_instr.ConstInstr.TheVariants as constant
use Rattle.smith_instr.specs.declared.aggregate.AggregateInstr.{AggregateInstr}
use Rattle.smith_instr.specs.declared.aggregate.AggregateInstr.TheVariants as aggregate
use Rattle.smith_instr.specs.declared.instr.Instr.TheVariants as instr
use Rattle.smith_instr.specs.declared.numeric.IntBinary.{IntBinary}
use Rattle.smith_instr.specs.declared.numeric.IntBinary.TheVariants.{Add, Sub, Mul}
use Rattle.smith_instr.specs.declared.numeric.NumericInstr.{NumericInstr}
use Rattle.smith_instr.specs.declared.numeric.NumericInstr.TheVariants.{I32Binary, I64Binary}
use Rattle.smith_instr.specs.declared.reference.ReferenceInstr.{ReferenceInstr}
use Rattle.smith_instr.specs.declared.reference.ReferenceInstr.TheVariants as reference
use Rattle.smith_types.specs.Flags.{IsInstrEnabled}
use Rattle.smith_decode.specs.Constants.{as_instr}
use Rattle.smith_check_module.specs.CanonicalModules.{renamed_const}
use Rattle.smith_check_module.specs.Typings.{IsBestStep, HasNoStep}

-- the constant instruction that an instruction is, if any
abbrev pub const_of_i32 : IntBinary → Option ConstInstr
const_of_i32 Add = Some constant.I32Add
const_of_i32 Sub = Some constant.I32Sub
const_of_i32 Mul = Some constant.I32Mul
const_of_i32 _ = None

abbrev pub const_of_i64 : IntBinary → Option ConstInstr
const_of_i64 Add = Some constant.I64Add
const_of_i64 Sub = Some constant.I64Sub
const_of_i64 Mul = Some constant.I64Mul
const_of_i64 _ = None

abbrev pub const_of_numeric : NumericInstr → Option ConstInstr
const_of_numeric (I32Binary op) = const_of_i32 op
const_of_numeric (I64Binary op) = const_of_i64 op
const_of_numeric _ = None

abbrev pub const_of_reference : ReferenceInstr → Option ConstInstr
const_of_reference (reference.Null heap_type) = Some (constant.RefNull heap_type)
const_of_reference (reference.Func index) = Some (constant.RefFunc index)
const_of_reference _ = None

abbrev pub const_of_aggregate : AggregateInstr → Option ConstInstr
const_of_aggregate aggregate.RefI31 = Some constant.RefI31
const_of_aggregate aggregate.RefI31Shared = Some constant.RefI31Shared
const_of_aggregate (aggregate.StructNew index) = Some (constant.StructNew index)
const_of_aggregate (aggregate.StructNewDefault index) = Some (constant.StructNewDefault index)
const_of_aggregate (aggregate.ArrayNew index) = Some (constant.ArrayNew index)
const_of_aggregate (aggregate.ArrayNewDefault index) = Some (constant.ArrayNewDefault index)
const_of_aggregate (aggregate.ArrayNewFixed index size) = Some (constant.ArrayNewFixed index size)
const_of_aggregate aggregate.AnyConvertExtern = Some constant.AnyConvertExtern
const_of_aggregate aggregate.ExternConvertAny = Some constant.ExternConvertAny
const_of_aggregate _ = None

abbrev pub const_of : Instr → Option ConstInstr
const_of (instr.I32Const value) = Some (constant.I32Const value)
const_of (instr.I64Const value) = Some (constant.I64Const value)
const_of (instr.F32Const bits) = Some (constant.F32Const bits)
const_of (instr.F64Const bits) = Some (constant.F64Const bits)
const_of (instr.V128Const bits) = Some (constant.V128Const bits)
const_of (instr.GlobalGet index) = Some (constant.GlobalGet index)
const_of (instr.Numeric op) = const_of_numeric op
const_of (instr.Reference op) = const_of_reference op
const_of (instr.Aggregate op) = const_of_aggregate op
const_of _ = None

-- an instruction is a constant instruction, which is enabled by canonical indices (Validation,
-- Constant Expressions; features: own rule)
pub record IsConstInstr (context : Context) (indices : List ℕ) (instruction : Instr) (constant : ConstInstr) : Type 0 where
  pub spelled : instruction ≡ as_instr constant
  pub enabled : IsInstrEnabled context.features context.imported_globals (renamed_const (canonical_index indices) constant)

-- a constant instruction takes the stack `before` to the stack of the least types (Validation,
-- Instruction Sequences)
pub record Goes (context : Context) (indices : List ℕ) (instruction : Instr) (before after : List ValType) : Type 0 where
  pub constant : ConstInstr
  pub is : IsConstInstr context indices instruction constant
  pub step : IsBestStep context (renamed_const (canonical_index indices) constant) before after

abbrev pub Stops : Context → List ℕ → Instr → List ValType → Type 0
Stops context indices instruction before = (constant : ConstInstr) → IsConstInstr context indices instruction constant
    → HasNoStep context (renamed_const (canonical_index indices) constant) before
