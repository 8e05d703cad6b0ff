-- Drawn numeric instructions, and `select`. The choices and their weights are rules of this
-- project.
use Rattle.std.specs.Prelude.{ℕ, ◌-◌, Bool, true, false, Option, Some, None, List, [], ◌∷◌, length, if◌then◌else◌}
use Rattle.smith_body_nodes.specs.Common.{choose_at, I32, NumericInstr, Ref, ValType}
use Rattle.smith_instr.specs.NumericTypes.{signature}
use Rattle.smith_instr.specs.declared.instr.Instr.TheVariants as instr
use Rattle.smith_body_nodes.specs.Chosen.{Chosen, giving}
use Rattle.smith_body_nodes.specs.Nodes.{node_of}
use Rattle.smith_body_nodes.specs.NumericRows.{numeric_rows}
use Rattle.smith_body_nodes.specs.declared.node.Node.{Node}

-- a numeric instruction whose first result has the wanted type; the other results are dropped
abbrev pub numeric_node : NumericInstr → Option Node
numeric_node op = Some (node_of (signature op).operands (instr.Numeric op) (length (signature op).results - 1))

unfoldable pub numeric_at : ValType → List ℕ → Chosen
numeric_at wanted bytes = giving numeric_node (choose_at (numeric_rows wanted) bytes)

-- a type of numbers or vectors
abbrev pub is_numeric : ValType → Bool
is_numeric (Ref reference) = false
is_numeric _ = true

-- `select` between numbers, or between vectors
abbrev pub select_node : ValType → Option Node
select_node wanted = if is_numeric wanted then Some (node_of (wanted ∷ wanted ∷ I32 ∷ []) instr.Select 0) else None
