-- Instructions that set no local, step by step.
use Rattle.smith_program.proofs.Common.{[], append-nil, append_assoc, AreTyped, AreValid, BodyContext, HasInstrType, Instr, IsStep, IsValid}
use Rattle.smith_program.proofs.Common.{List, refl, Stacked, stacked, step, subst, sym, ValType, ℕ, ◌++◌, ◌∙◌, ◌∷◌, ◌≡◌}
use Rattle.smith_instr.specs.InstrTypes.{sets}
use Rattle.smith_instr.specs.Sequences.{IsFramed}
use Rattle.smith_instr.proofs.SequenceLemmas.{below_themselves, count_as_themselves}
use Rattle.smith_body_nodes.proofs.NodeLemmas.{one_valid, no_valid}

-- a step that takes the topmost values and sets no local
pub framed_by : (context : BodyContext) (operands results base before after : List ValType) (set : List ℕ) → before ≡ base ++ operands
    → after ≡ base ++ results → AreValid context results
    → IsFramed context operands results [] (stacked before set) (stacked after set)
framed_by context operands results base before after set under over valid = record {
  rest = base;
  taken = operands;
  given = results;
  under = under;
  accepted = below_themselves context.types operands;
  offered = count_as_themselves context results valid;
  over = over;
  set_then = sym (append-nil set);
}

-- an instruction that sets no local
pub step_by : (context : BodyContext) (instruction : Instr) (operands results base before after : List ValType) (set : List ℕ)
    → HasInstrType context set instruction operands results
    → sets instruction ≡ [] → before ≡ base ++ operands → after ≡ base ++ results → AreValid context results
    → IsStep context instruction (stacked before set) (stacked after set)
step_by context instruction operands results base before after set typed none under over valid = record {
  operands = operands;
  results = results;
  typed = typed;
  framed = subst (λ (more : List ℕ). IsFramed context operands results more (stacked before set) (stacked after set)) (sym none)
      (framed_by context operands results base before after set under over valid);
}

-- an instruction before others: it pushes a value, replaces one, two or three, or pops one
pub pushed : (context : BodyContext) (first : Instr) (value : ValType) (base : List ValType) (set : List ℕ) (rest : List Instr)
    (after : Stacked) → HasInstrType context set first [] (value ∷ []) → sets first ≡ [] → IsValid context value
    → AreTyped context rest (stacked (base ++ value ∷ []) set) after → AreTyped context (first ∷ rest) (stacked base set) after
pushed context first value base set rest after typed none valid more =
    step (step_by context first [] (value ∷ []) base base (base ++ value ∷ []) set typed none (sym (append-nil base)) refl
    (one_valid context value valid)) more

pub replaced : (context : BodyContext) (first : Instr) (operand value : ValType) (base : List ValType) (set : List ℕ) (rest : List Instr)
    (after : Stacked) → HasInstrType context set first (operand ∷ []) (value ∷ []) → sets first ≡ [] → IsValid context value
    → AreTyped context rest (stacked (base ++ value ∷ []) set) after
    → AreTyped context (first ∷ rest) (stacked (base ++ operand ∷ []) set) after
replaced context first operand value base set rest after typed none valid more =
    step (step_by context first (operand ∷ []) (value ∷ []) base (base ++ operand ∷ []) (base ++ value ∷ []) set typed none refl refl
    (one_valid context value valid)) more

pub joined : (context : BodyContext) (first : Instr) (operand value : ValType) (base : List ValType) (set : List ℕ) (rest : List Instr)
    (after : Stacked) → HasInstrType context set first (operand ∷ operand ∷ []) (value ∷ []) → sets first ≡ [] → IsValid context value
    → AreTyped context rest (stacked (base ++ value ∷ []) set) after
    → AreTyped context (first ∷ rest) (stacked ((base ++ operand ∷ []) ++ operand ∷ []) set) after
joined context first operand value base set rest after typed none valid more =
    step (step_by context first (operand ∷ operand ∷ []) (value ∷ []) base ((base ++ operand ∷ []) ++ operand ∷ []) (base ++ value ∷ []) set
    typed none (append_assoc base (operand ∷ []) (operand ∷ [])) refl (one_valid context value valid)) more

pub chosen : (context : BodyContext) (first : Instr) (value condition : ValType) (base : List ValType) (set : List ℕ) (rest : List Instr)
    (after : Stacked) → HasInstrType context set first (value ∷ value ∷ condition ∷ []) (value ∷ []) → sets first ≡ []
    → IsValid context value → AreTyped context rest (stacked (base ++ value ∷ []) set) after
    → AreTyped context (first ∷ rest) (stacked (((base ++ value ∷ []) ++ value ∷ []) ++ condition ∷ []) set) after
chosen context first value condition base set rest after typed none valid more =
    step (step_by context first (value ∷ value ∷ condition ∷ []) (value ∷ []) base
    (((base ++ value ∷ []) ++ value ∷ []) ++ condition ∷ []) (base ++ value ∷ []) set typed none
    (append_assoc (base ++ value ∷ []) (value ∷ []) (condition ∷ []) ∙ append_assoc base (value ∷ []) (value ∷ condition ∷ [])) refl
    (one_valid context value valid)) more

pub popped : (context : BodyContext) (first : Instr) (operand : ValType) (base : List ValType) (set : List ℕ) (rest : List Instr)
    (after : Stacked) → HasInstrType context set first (operand ∷ []) [] → sets first ≡ []
    → AreTyped context rest (stacked base set) after → AreTyped context (first ∷ rest) (stacked (base ++ operand ∷ []) set) after
popped context first operand base set rest after typed none more =
    step (step_by context first (operand ∷ []) [] base (base ++ operand ∷ []) base set typed none refl (sym (append-nil base))
    (no_valid context)) more
