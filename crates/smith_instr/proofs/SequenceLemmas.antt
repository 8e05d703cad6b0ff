-- Sequences step by step, and values that count as themselves.
use Rattle.std.proofs.Common.{◌≡◌, ℕ, List, [], ◌∷◌, ◌++◌, refl}
use Rattle.std.specs.List.{AllZip}
use Rattle.smith_types.specs.Subtyping.{IsValBelow}
use Rattle.smith_types.specs.Syntax.value_type.ValType.{ValType}
use Rattle.smith_types.specs.Syntax.composite_type.SubType.{SubType}
use Rattle.smith_types.proofs.GrowthLemmas.{IsValBelow-refl}
use Rattle.smith_instr.specs.Contexts.{BodyContext, AreValid}
use Rattle.smith_instr.specs.InstrTypes.{sets, HasInstrType}
use Rattle.smith_instr.specs.Sequences.{stacked, CountsAs, IsFramed, IsStep, AreTyped, nothing}
use Rattle.smith_instr.specs.declared.instr.Instr.{Instr}

pub below_themselves : (types : List SubType) (values : List ValType) → AllZip (IsValBelow types) values values
below_themselves types [] = tt
below_themselves types (value ∷ values) = (IsValBelow-refl types value, below_themselves types values)

pub count_as_themselves : (context : BodyContext) (values : List ValType) → AreValid context values → CountsAs context values values
count_as_themselves context values valid = record { below = below_themselves context.types values; valid = valid }

-- operands and results on top of any values
pub framed : (context : BodyContext) (operands results base : List ValType) (set more after : List ℕ) → AreValid context results
    → after ≡ set ++ more
    → IsFramed context operands results more (stacked (base ++ operands) set) (stacked (base ++ results) after)
framed context operands results base set more after valid then = record {
  rest = base;
  taken = operands;
  given = results;
  under = refl;
  accepted = below_themselves context.types operands;
  offered = count_as_themselves context results valid;
  over = refl;
  set_then = then;
}

-- one instruction on top of any values
pub one : (context : BodyContext) (instruction : Instr) (operands results base : List ValType) (set after : List ℕ)
    → HasInstrType context set instruction operands results → AreValid context results → after ≡ set ++ sets instruction
    → IsStep context instruction (stacked (base ++ operands) set) (stacked (base ++ results) after)
one context instruction operands results base set after typed valid then = record {
  operands = operands;
  results = results;
  typed = typed;
  framed = framed context operands results base set (sets instruction) after valid then;
}

-- the end of a sequence
pub finished : (context : BodyContext) (values : List ValType) (set : List ℕ) → AreValid context values
    → AreTyped context [] (stacked values set) (stacked values set)
finished context values set valid = nothing (count_as_themselves context values valid) refl
