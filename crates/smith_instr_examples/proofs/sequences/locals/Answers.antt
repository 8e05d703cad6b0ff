use Rattle.smith_instr_examples.proofs.Common.{[], ◌∷◌}
use Rattle.smith_instr_examples.proofs.LocalExamples as locals
use Rattle.smith_instr_examples.proofs.SequenceExamples as example
use Rattle.smith_instr_examples.proofs.sequences.locals.Goals as goal

pub returns : goal.returns
returns c = record {
  with_a_default = example.defaultable;
  read_after_it_is_set = example.set_before;
  read_after_a_tee = record { set = 0 ∷ []; typed = locals.after_a_tee };
  read_before_it_is_set = example.unset;
}
