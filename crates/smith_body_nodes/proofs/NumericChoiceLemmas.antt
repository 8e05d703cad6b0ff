-- The chosen numeric instruction, by the drawn place.
use Rattle.smith_body_nodes.proofs.Common.{ap, choose_at, get_or, length, List, None, Option, range_at, Some, subst, sym, ValType, ℕ, ◌-◌}
use Rattle.smith_body_nodes.proofs.Common.{◌<◌, ◌∙◌, ◌≡◌}
use Rattle.smith_instr.specs.NumericTypes.{signature}
use Rattle.smith_instr.specs.declared.instr.Instr.TheVariants as instr
use Rattle.smith_instr.specs.declared.numeric.NumericInstr.{NumericInstr}
use Rattle.smith_body_nodes.specs.NumericChoices.{numeric_at, numeric_node}
use Rattle.smith_body_nodes.specs.Chosen.{giving}
use Rattle.smith_body_nodes.specs.Nodes.{node_of}
use Rattle.smith_body_nodes.specs.NumericRows.{numeric_rows}
use Rattle.smith_body_nodes.proofs.ChosenLemmas.{choose_none, choose_there}

-- a row of the numeric instructions
pub numeric_none : (rows : List NumericInstr) (wanted : ValType) (bytes : List ℕ) → rows ≡ numeric_rows wanted → length rows ≡ 0
    → numeric_at wanted bytes ≡ (None, bytes)
unfolding numeric_at
numeric_none rows wanted bytes are none =
    let empty : length (numeric_rows wanted) ≡ 0 = ap (λ (ops : List NumericInstr). length ops) (sym are) ∙ none in
    ap (λ (drawn : Option NumericInstr × List ℕ). giving numeric_node drawn) (choose_none (numeric_rows wanted) bytes empty)

pub numeric_there : (rows : List NumericInstr) (wanted : ValType) (bytes left : List ℕ) (place : ℕ) (d : NumericInstr)
    → rows ≡ numeric_rows wanted → range_at 0 (length rows - 1) bytes ≡ (place, left) → place < length rows
    → numeric_at wanted bytes
    ≡ (
      Some (node_of (signature (get_or rows place d)).operands (instr.Numeric (get_or rows place d))
          (length (signature (get_or rows place d)).results - 1)),
      left,
    )
unfolding numeric_at
numeric_there rows wanted bytes left place d are drawn inside =
    let chosen : choose_at (numeric_rows wanted) bytes ≡ (Some (get_or rows place d), left) =
    subst (λ (ops : List NumericInstr). choose_at ops bytes ≡ (Some (get_or rows place d), left)) are
    (choose_there rows bytes left place d drawn inside) in
    ap (λ (drawn : Option NumericInstr × List ℕ). giving numeric_node drawn) chosen
