use Rattle.smith_instr_examples.proofs.SequenceExamples as example
use Rattle.smith_instr_examples.proofs.sequences.sums.Goals as goal

pub returns : goal.returns
returns c = record { of_two = example.sum_of_two; of_one = example.sum_of_one }
