-- Valid constant expressions have the forms of enabled features alone.
use Rattle.smith_binary_program.proofs.Common.{[], All, All-cons, All-head, All-nil, All-tail, as_expr, Bool, ConstInstr, Context, false}
use Rattle.smith_binary_program.proofs.Common.{Features, Instr, IsExprEnabled, IsTrue, length, List, refl, true, ValType, ℕ, ◌&&◌, ◌∷◌}
use Rattle.smith_types.specs.Syntax.const_instr.ConstInstr.TheVariants as constant
use Rattle.smith_types.specs.Syntax.segments.Offset.{Offset}
use Rattle.smith_types.specs.Syntax.segments.Offset.TheVariants.{Const32, Const64, Global}
use Rattle.smith_types.specs.Expressions.{AreStackSteps, HasType, IsConstExpr}
use Rattle.smith_types.specs.Flags.{IsInstrEnabled as IsConstOn}
use Rattle.smith_binary_sections.specs.Instructions.{offset_of}
use Rattle.smith_instr.specs.Enabled.{has_features}
use Rattle.smith_decode.specs.Constants.{as_instr}
use Rattle.smith_decode.specs.Forms.{AreNamedEnabled, AreStatedEnabled, IsConstantEnabled, IsExtendedEnabled}
use Rattle.smith_binary_program.proofs.TypesOnLemmas.{heap_on}

enabled_by : (features : Features) (x : Instr) → IsTrue (has_features features x) → AreStatedEnabled features x
    → AreNamedEnabled features x → IsExtendedEnabled features x → IsConstantEnabled features x
enabled_by features x own stated named extended =
    record { form = record { own = own; stated = stated; named = named }; extended = extended }

both_on : (a b : Bool) → IsTrue a → IsTrue b → IsTrue (a && b)
both_on true b one other = other
both_on false b one other = one

instr_on : (context : Context) (imports : ℕ) (x : ConstInstr) (operands : List ValType) (result : ValType)
    → HasType context x operands result → IsConstOn context.features imports x → IsConstantEnabled context.features (as_instr x)
instr_on context imports (constant.I32Const value) operands result h on = enabled_by _ _ refl tt tt tt
instr_on context imports (constant.I64Const value) operands result h on = enabled_by _ _ refl tt tt tt
instr_on context imports (constant.F32Const bits) operands result h on = enabled_by _ _ refl tt tt tt
instr_on context imports (constant.F64Const bits) operands result h on = enabled_by _ _ refl tt tt tt
instr_on context imports (constant.V128Const value) operands result h on = enabled_by _ _ on tt tt tt
instr_on context imports (constant.GlobalGet index) operands result h on = enabled_by _ _ refl tt tt tt
instr_on context imports (constant.RefNull heap) operands result h on =
    enabled_by _ _ on (heap_on context.features (length context.types) heap h.0) tt tt
instr_on context imports (constant.RefFunc index) operands result h on = enabled_by _ _ on tt tt tt
instr_on context imports constant.I32Add operands result h on = enabled_by _ _ refl tt tt on
instr_on context imports constant.I32Sub operands result h on = enabled_by _ _ refl tt tt on
instr_on context imports constant.I32Mul operands result h on = enabled_by _ _ refl tt tt on
instr_on context imports constant.I64Add operands result h on = enabled_by _ _ refl tt tt on
instr_on context imports constant.I64Sub operands result h on = enabled_by _ _ refl tt tt on
instr_on context imports constant.I64Mul operands result h on = enabled_by _ _ refl tt tt on
instr_on context imports constant.RefI31 operands result h on = enabled_by _ _ on tt tt tt
instr_on context imports constant.RefI31Shared operands result h on =
    enabled_by _ _ (both_on context.features.gc context.features.shared_everything_threads on.0 on.1) tt tt tt
instr_on context imports (constant.StructNew index) operands result h on = enabled_by _ _ on tt tt tt
instr_on context imports (constant.StructNewDefault index) operands result h on = enabled_by _ _ on tt tt tt
instr_on context imports (constant.ArrayNew index) operands result h on = enabled_by _ _ on tt tt tt
instr_on context imports (constant.ArrayNewDefault index) operands result h on = enabled_by _ _ on tt tt tt
instr_on context imports (constant.ArrayNewFixed index size) operands result h on = enabled_by _ _ on tt tt tt
instr_on context imports constant.AnyConvertExtern operands result h on = enabled_by _ _ on tt tt tt
instr_on context imports constant.ExternConvertAny operands result h on = enabled_by _ _ on tt tt tt

steps_on : (context : Context) (imports : ℕ) (xs : List ConstInstr) (before after : List ValType) → AreStackSteps context xs before after
    → All (IsConstOn context.features imports) xs → IsExprEnabled context.features (as_expr xs)
steps_on context imports [] before after h on = All-nil (IsConstantEnabled context.features)
steps_on context imports (x ∷ xs) before after (between, one, more) on =
    let IsOn = IsConstOn context.features imports in
    All-cons (IsConstantEnabled context.features) (as_instr x) (as_expr xs)
    (instr_on context imports x one.operands one.result one.typed (All-head IsOn x xs on))
    (steps_on context imports xs between after more (All-tail IsOn x xs on))

pub expr_on : (context : Context) (wanted : ValType) (expression : List ConstInstr) → IsConstExpr context wanted expression
    → IsExprEnabled context.features (as_expr expression)
expr_on context wanted expression h =
    steps_on context context.imported_globals expression [] (h.value ∷ []) h.steps h.enabled

-- a list of one instruction
alone_on : (features : Features) (x : Instr) → IsConstantEnabled features x → IsExprEnabled features (x ∷ [])
alone_on features x on = All-cons (IsConstantEnabled features) x [] on (All-nil (IsConstantEnabled features))

pub offset_on : (features : Features) (offset : Offset) → IsExprEnabled features (as_expr (offset_of offset))
offset_on features (Const32 value) = alone_on features _ (enabled_by _ _ refl tt tt tt)
offset_on features (Const64 value) = alone_on features _ (enabled_by _ _ refl tt tt tt)
offset_on features (Global index) = alone_on features _ (enabled_by _ _ refl tt tt tt)
