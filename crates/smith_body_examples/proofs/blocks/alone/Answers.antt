use Rattle.std.proofs.Common.{◌≡◌, ℕ, List, [], ◌∷◌, ap, sym, ◌∙◌}
use Rattle.smith_instr.specs.declared.control.BlockType.TheVariants as block
use Rattle.smith_instr.specs.declared.instr.Instr.{Instr}
use Rattle.smith_instr.specs.declared.instr.Instr.TheVariants as instr
use Rattle.smith_instr_examples.specs.ExampleBodies.{number}
use Rattle.smith_body_examples.proofs.blocks.alone.Goals as goal

pub returns-clause-alone_with_other_results : goal.returns-clause-alone_with_other_results
returns-clause-alone_with_other_results c = λ is.
    let same : number 1 ∷ number 2 ∷ instr.If (block.Func 1) ∷ instr.GlobalSet 1 ∷ instr.Else ∷ instr.GlobalSet 1 ∷ instr.End ∷ []
    ≡ number 1 ∷ number 2 ∷ instr.If (block.Func 1) ∷ instr.GlobalSet 1 ∷ instr.End ∷ [] =
    ap (λ (drawn : List Instr × List ℕ). drawn.0) (sym c.with_an_else.ensures.else_for_other_results ∙ is) in
    cc
