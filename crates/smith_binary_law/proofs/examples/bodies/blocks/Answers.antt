use Rattle.smith_binary_law.proofs.Common.{[], false, refl, true, ◌∷◌}
use Rattle.std.proofs.lemmas.Bool.{false≢true}
use Rattle.smith_instr.specs.declared.control.BlockType.TheVariants.{Empty}
use Rattle.smith_instr.specs.declared.instr.Instr.TheVariants.{Block, If, Else, End, Nop}
use Rattle.smith_binary_law.proofs.SpelledExamples.{nests, nested_nests}
use Rattle.smith_binary_law.proofs.examples.bodies.blocks.Goals as goal

pub returns-clause-nested : goal.returns-clause-nested
returns-clause-nested c = (false ∷ [], refl, (false ∷ [], refl, ([], refl, refl)))

pub returns-clause-with_an_else : goal.returns-clause-with_an_else
returns-clause-with_an_else c = (true ∷ [], refl, (false ∷ [], refl, ([], refl, refl)))

pub returns-clause-without_its_end : goal.returns-clause-without_its_end
unfolding nests
returns-clause-without_its_end c = λ h. false≢true (nested_nests [] (Block Empty ∷ Nop ∷ []) h)

pub returns-clause-with_an_end_too_many : goal.returns-clause-with_an_end_too_many
unfolding nests
returns-clause-with_an_end_too_many c = λ h. false≢true (nested_nests [] (Nop ∷ End ∷ []) h)

pub returns-clause-block_with_an_else : goal.returns-clause-block_with_an_else
unfolding nests
returns-clause-block_with_an_else c = λ h. false≢true (nested_nests [] (Block Empty ∷ Else ∷ End ∷ []) h)

pub returns-clause-with_two_elses : goal.returns-clause-with_two_elses
unfolding nests
returns-clause-with_two_elses c = λ h. false≢true (nested_nests [] (If Empty ∷ Else ∷ Else ∷ End ∷ []) h)
