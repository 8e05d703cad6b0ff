use Rattle.smith_instr_examples.proofs.BlockExamples as example
use Rattle.smith_instr_examples.proofs.blocks.ifs.Goals as goal

pub returns : goal.returns
returns c = record { with_an_else = example.either; else_without_a_result = λ typed. example.no_result typed }
