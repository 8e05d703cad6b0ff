use Rattle.smith_program_examples.proofs.SpellingExamples as example
use Rattle.smith_program_examples.proofs.spellings.sections.Goals as goal

pub returns : goal.returns
returns c = record {
  of_a_function_type = example.types_in_two;
  of_a_short_size = example.size_too_short;
  of_a_short_length = example.length_too_short;
}
