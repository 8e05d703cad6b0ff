-- Nodes of one instruction that sets no local.
use Rattle.smith_body_nodes.proofs.Common.{[], AreValid, arith, BodyContext, Bool, false, Instr, IsValBelow, IsValid, length, List, refl}
use Rattle.smith_body_nodes.proofs.Common.{true, ValType, ℕ, ◌++◌, ◌∷◌, ◌≡◌, ◌≤◌}
use Rattle.smith_instr.specs.InstrTypes.{sets, HasInstrType}
use Rattle.smith_instr.specs.ReferenceTypes.{narrower}
use Rattle.smith_body_nodes.specs.Nodes.{IsNode, node_of}
use Rattle.smith_body_nodes.proofs.NodeLemmas.{address_valid, more_valid, no_valid, one_valid, three_wide}
use Rattle.smith_body_nodes.proofs.PlainNodeLemmas.{plain_node}

-- an instruction without results
pub gives_none : (context : BodyContext) (set : List ℕ) (operands : List ValType) (instruction : Instr)
    → ((more : List ℕ) → HasInstrType context (set ++ more) instruction operands []) → sets instruction ≡ [] → length operands ≤ 7
    → AreValid context operands
    → IsNode context set [] (node_of operands instruction 0)
gives_none context set operands instruction typed none few operands_valid = plain_node context set operands [] instruction typed none
    operands_valid (no_valid context) few

-- an instruction with one result
pub gives_one : (context : BodyContext) (set : List ℕ) (wanted value : ValType) (operands : List ValType) (instruction : Instr)
    → ((more : List ℕ) → HasInstrType context (set ++ more) instruction operands (value ∷ [])) → IsValBelow context.types value wanted
    → IsValid context wanted
    → sets instruction ≡ [] → length operands ≤ 7 → AreValid context operands
    → IsNode context set (wanted ∷ []) (node_of operands instruction 0)
gives_one context set wanted value operands instruction typed below valid none few operands_valid = record {
  results = value ∷ [];
  dropped = [];
  typed = typed;
  below = (below, tt);
  given = one_valid context wanted valid;
  spare = no_valid context;
  drops = refl;
  sets_local = none;
  few = let wide = three_wide context.types in omega arith;
  valid = operands_valid;
  inside = tt;
}

pub two_valid : (context : BodyContext) (a b : ValType) → IsValid context a → IsValid context b → AreValid context (a ∷ b ∷ [])
two_valid context a b first second = more_valid context a (b ∷ []) first (one_valid context b second)

pub three_valid : (context : BodyContext) (a b c : ValType) → IsValid context a → IsValid context b → IsValid context c
    → AreValid context (a ∷ b ∷ c ∷ [])
three_valid context a b c first second third = more_valid context a (b ∷ c ∷ []) first (two_valid context b c second third)

pub narrower_valid : (context : BodyContext) (one other : Bool) → IsValid context (narrower one other)
narrower_valid context true other = address_valid context other
narrower_valid context false other = tt
