-- Constant instructions among all instructions.
use Rattle.smith_check_module.proofs.Common.{ap, as_instr, ConstInstr, Instr, None, refl, same_Some, Some, sym, ◌∙◌, ◌≡◌}
use Rattle.smith_types.specs.Syntax.const_instr.ConstInstr.TheVariants as constant
use Rattle.smith_instr.specs.declared.aggregate.AggregateInstr.{AggregateInstr}
use Rattle.smith_instr.specs.declared.aggregate.AggregateInstr.TheVariants as aggregate
use Rattle.smith_instr.specs.declared.instr.Instr.TheVariants as instr
use Rattle.smith_instr.specs.declared.numeric.IntBinary.{IntBinary}
use Rattle.smith_instr.specs.declared.numeric.IntBinary.TheVariants.{Add, Sub, Mul}
use Rattle.smith_instr.specs.declared.numeric.NumericInstr.{NumericInstr}
use Rattle.smith_instr.specs.declared.numeric.NumericInstr.TheVariants.{I32Binary, I64Binary}
use Rattle.smith_instr.specs.declared.reference.ReferenceInstr.{ReferenceInstr}
use Rattle.smith_instr.specs.declared.reference.ReferenceInstr.TheVariants as reference
use Rattle.smith_check_module.specs.ConstInstrs.{const_of, const_of_i32, const_of_i64, const_of_numeric, const_of_reference}
use Rattle.smith_check_module.specs.ConstInstrs.{const_of_aggregate}

const_of_itself : (c : ConstInstr) → const_of (as_instr c) ≡ Some c
const_of_itself (constant.I32Const value) = refl
const_of_itself (constant.I64Const value) = refl
const_of_itself (constant.F32Const bits) = refl
const_of_itself (constant.F64Const bits) = refl
const_of_itself (constant.V128Const bits) = refl
const_of_itself (constant.GlobalGet index) = refl
const_of_itself (constant.RefNull heap_type) = refl
const_of_itself (constant.RefFunc index) = refl
const_of_itself (constant.StructNew index) = refl
const_of_itself (constant.StructNewDefault index) = refl
const_of_itself (constant.ArrayNew index) = refl
const_of_itself (constant.ArrayNewDefault index) = refl
const_of_itself (constant.ArrayNewFixed index size) = refl
const_of_itself _ = refl

-- one constant instruction is spelled by an instruction
pub one_constant : (c d : ConstInstr) → as_instr c ≡ as_instr d → c ≡ d
one_constant c d same = same_Some c d (sym (const_of_itself c) ∙ ap const_of same ∙ const_of_itself d)

spelled_i32 : (op : IntBinary) (c : ConstInstr) → const_of_i32 op ≡ Some c → instr.Numeric (I32Binary op) ≡ as_instr c
spelled_i32 Add c is = ap as_instr (same_Some constant.I32Add c is)
spelled_i32 Sub c is = ap as_instr (same_Some constant.I32Sub c is)
spelled_i32 Mul c is = ap as_instr (same_Some constant.I32Mul c is)
spelled_i32 _ c is = cc

spelled_i64 : (op : IntBinary) (c : ConstInstr) → const_of_i64 op ≡ Some c → instr.Numeric (I64Binary op) ≡ as_instr c
spelled_i64 Add c is = ap as_instr (same_Some constant.I64Add c is)
spelled_i64 Sub c is = ap as_instr (same_Some constant.I64Sub c is)
spelled_i64 Mul c is = ap as_instr (same_Some constant.I64Mul c is)
spelled_i64 _ c is = cc

spelled_numeric : (op : NumericInstr) (c : ConstInstr) → const_of_numeric op ≡ Some c → instr.Numeric op ≡ as_instr c
spelled_numeric (I32Binary op) c is = spelled_i32 op c is
spelled_numeric (I64Binary op) c is = spelled_i64 op c is
spelled_numeric _ c is = cc

spelled_reference : (op : ReferenceInstr) (c : ConstInstr) → const_of_reference op ≡ Some c → instr.Reference op ≡ as_instr c
spelled_reference (reference.Null heap_type) c is = ap as_instr (same_Some (constant.RefNull heap_type) c is)
spelled_reference (reference.Func index) c is = ap as_instr (same_Some (constant.RefFunc index) c is)
spelled_reference _ c is = cc

spelled_aggregate : (op : AggregateInstr) (c : ConstInstr) → const_of_aggregate op ≡ Some c → instr.Aggregate op ≡ as_instr c
spelled_aggregate aggregate.RefI31 c is = ap as_instr (same_Some constant.RefI31 c is)
spelled_aggregate aggregate.RefI31Shared c is = ap as_instr (same_Some constant.RefI31Shared c is)
spelled_aggregate (aggregate.StructNew index) c is = ap as_instr (same_Some (constant.StructNew index) c is)
spelled_aggregate (aggregate.StructNewDefault index) c is = ap as_instr (same_Some (constant.StructNewDefault index) c is)
spelled_aggregate (aggregate.ArrayNew index) c is = ap as_instr (same_Some (constant.ArrayNew index) c is)
spelled_aggregate (aggregate.ArrayNewDefault index) c is = ap as_instr (same_Some (constant.ArrayNewDefault index) c is)
spelled_aggregate (aggregate.ArrayNewFixed index size) c is = ap as_instr (same_Some (constant.ArrayNewFixed index size) c is)
spelled_aggregate aggregate.AnyConvertExtern c is = ap as_instr (same_Some constant.AnyConvertExtern c is)
spelled_aggregate aggregate.ExternConvertAny c is = ap as_instr (same_Some constant.ExternConvertAny c is)
spelled_aggregate _ c is = cc

-- the constant instruction that is read off an instruction spells it
pub spelled : (i : Instr) (c : ConstInstr) → const_of i ≡ Some c → i ≡ as_instr c
spelled (instr.I32Const value) c is = ap as_instr (same_Some (constant.I32Const value) c is)
spelled (instr.I64Const value) c is = ap as_instr (same_Some (constant.I64Const value) c is)
spelled (instr.F32Const bits) c is = ap as_instr (same_Some (constant.F32Const bits) c is)
spelled (instr.F64Const bits) c is = ap as_instr (same_Some (constant.F64Const bits) c is)
spelled (instr.V128Const bits) c is = ap as_instr (same_Some (constant.V128Const bits) c is)
spelled (instr.GlobalGet index) c is = ap as_instr (same_Some (constant.GlobalGet index) c is)
spelled (instr.Numeric op) c is = spelled_numeric op c is
spelled (instr.Reference op) c is = spelled_reference op c is
spelled (instr.Aggregate op) c is = spelled_aggregate op c is
spelled _ c is = cc

-- no constant instruction spells an instruction off which none is read
pub not_spelled : (i : Instr) (c : ConstInstr) → const_of i ≡ None → i ≡ as_instr c → ⊥
not_spelled i c none is =
    let both : Some c ≡ None = sym (const_of_itself c) ∙ ap const_of (sym is) ∙ none in cc
