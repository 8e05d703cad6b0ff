use Rattle.smith_instr_examples.proofs.BlockExamples.{if_for_a_result}
use Rattle.smith_instr_examples.proofs.SequenceExamples as example
use Rattle.smith_instr_examples.proofs.sequences.ifs.Goals as goal

pub returns : goal.returns
returns c = record { without_else = example.if_without_else; without_else_for_a_result = if_for_a_result }
