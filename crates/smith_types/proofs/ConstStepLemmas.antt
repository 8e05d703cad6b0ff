-- Constant expressions, built instruction by instruction.
use Rattle.smith_types.proofs.Common.{[], All, I32, List, refl, ValType, ◌++◌, ◌∷◌}
use Rattle.std.proofs.Common.{ℤ}
use Rattle.std.specs.List.{AllZip}
use Rattle.std.proofs.lemmas.List.Elements.{All-nil, All-cons}
use Rattle.smith_syntax.specs.declared.const_instr.ConstInstr.{ConstInstr}
use Rattle.smith_types.specs.Flags.{IsInstrEnabled}
use Rattle.smith_types.specs.Subtyping.{IsValBelow}
use Rattle.smith_types.specs.Expressions.{Context, HasType, IsStackStep, IsConstExpr}
use Rattle.smith_syntax.specs.declared.const_instr.ConstInstr.TheVariants.{I32Const}

-- one instruction takes its operands from the top and leaves the rest
pub one_step : (context : Context) (instruction : ConstInstr) (operands : List ValType) (result : ValType) (rest taken : List ValType)
    → HasType context instruction operands result → AllZip (IsValBelow context.types) taken operands
    → IsStackStep context instruction (rest ++ taken) (rest ++ result ∷ [])
one_step context instruction operands result rest taken typed accepted =
    record {
      operands = operands;
      result = result;
      typed = typed;
      rest = rest;
      taken = taken;
      on_top = refl;
      accepted = accepted;
      pushed = refl;
    }

-- an instruction without operands, alone
pub alone : (context : Context) (instruction : ConstInstr) (value wanted : ValType) → HasType context instruction [] value
    → IsValBelow context.types value wanted → All (IsInstrEnabled context.features context.imported_globals) (instruction ∷ [])
    → IsConstExpr context wanted (instruction ∷ [])
alone context instruction value wanted typed below enabled =
    record {
      value = value;
      steps = (value ∷ [], one_step context instruction [] value [] [] typed tt, refl);
      below = below;
      enabled = enabled;
    }

-- an instruction without operands, followed by an instruction that takes its value
pub after_one : (context : Context) (first second : ConstInstr) (taken operand value wanted : ValType) → HasType context first [] taken
    → HasType context second (operand ∷ []) value → IsValBelow context.types taken operand → IsValBelow context.types value wanted
    → All (IsInstrEnabled context.features context.imported_globals) (first ∷ second ∷ [])
    → IsConstExpr context wanted (first ∷ second ∷ [])
after_one context first second taken operand value wanted typed typed' accepted below enabled = record {
  value = value;
  steps = (
    taken ∷ [],
    one_step context first [] taken [] [] typed tt,
    (value ∷ [], one_step context second (operand ∷ []) value [] (taken ∷ []) typed' (accepted, tt), refl),
  );
  below = below;
  enabled = enabled;
}

-- a constant number leaves a number
pub number_given : (context : Context) (value : ℤ) → IsConstExpr context I32 (I32Const value ∷ [])
number_given context value = alone context (I32Const value) I32 I32 (refl, refl) tt
    (All-cons (IsInstrEnabled context.features context.imported_globals) (I32Const value) [] tt
    (All-nil (IsInstrEnabled context.features context.imported_globals)))
