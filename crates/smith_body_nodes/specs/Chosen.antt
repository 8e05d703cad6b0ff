-- Choices: a drawn item, or none.
use Rattle.std.specs.Prelude.{ℕ, Option, unwrap_or, List, [], option_and_then}
use Rattle.smith_instr.specs.declared.instr.Instr.TheVariants as instr
use Rattle.smith_body_nodes.specs.Nodes.{node_of}
use Rattle.smith_body_nodes.specs.declared.node.Node.{Node}

-- the chosen node, if any, and the bytes left
abbrev pub Chosen : Type 0
Chosen = Option Node × List ℕ

-- the result for an item that was drawn, if it has one
abbrev pub giving : {A B : Type 0} → (A → Option B) → Option A × List ℕ → Option B × List ℕ
giving give drawn = (option_and_then give drawn.0, drawn.1)

-- the chosen node, or `nop`
abbrev pub or_nop : Chosen → Node × List ℕ
or_nop chosen = (unwrap_or chosen.0 (node_of [] instr.Nop 0), chosen.1)
