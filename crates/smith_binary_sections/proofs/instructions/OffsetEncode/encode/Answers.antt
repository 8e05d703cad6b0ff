use Rattle.std.specs.Prelude.{OnOk}
use Rattle.smith_binary_sections.proofs.Common.{[], ConstInstr, List, subst, Writes, ◌∷◌, ◌≡◌}
use Rattle.std.proofs.Common.{rules}
use Rattle.smith_binary_sections.specs.Instructions.{IsExpressionIn, offset_of}
use Rattle.smith_binary_sections.proofs.instructions.OffsetEncode.encode.Goals.{in-Const32, in-Const64, in-Global}
use Rattle.smith_binary_sections.proofs.instructions.OffsetEncode.encode.Goals as goal

pub returns-clause-writes : goal.returns-clause-writes
returns-clause-writes c =
    let is : c.match-self.instruction ∷ [] ≡ offset_of c.args.self.now = elim c.match-self.branch [
      | in-Const32 w ↦ search rules
      | in-Const64 w ↦ search rules
      | in-Global w ↦ search rules
    ] in
    subst (λ (xs : List ConstInstr). OnOk c.write_expression.result
    (Writes (λ s. IsExpressionIn s xs) c.args.sink.now c.write_expression.new.sink)) is c.write_expression.ensures.writes
