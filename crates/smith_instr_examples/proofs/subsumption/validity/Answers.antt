use Rattle.smith_instr_examples.proofs.SubsumptionExamples as example
use Rattle.smith_instr_examples.proofs.subsumption.validity.Goals as goal

pub returns : goal.returns
returns c = record { at_the_end = example.no_end; after_an_instruction = example.none_read }
