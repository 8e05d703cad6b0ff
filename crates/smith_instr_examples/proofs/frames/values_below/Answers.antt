use Rattle.smith_instr.specs.declared.instr.Instr.TheVariants as instr
use Rattle.smith_instr_examples.proofs.Common.{[], ◌∷◌, refl}
use Rattle.smith_instr_examples.proofs.FrameExamples.{below}
use Rattle.smith_instr_examples.proofs.PartLemmas.{block_parts, loop_parts, if_parts, try_parts, arms, is_inner}
use Rattle.smith_instr_examples.proofs.SequenceExamples.{is_plain}
use Rattle.smith_instr_examples.proofs.frames.values_below.Goals as goal

pub returns : goal.returns
unfolding is_inner is_plain
returns c = record {
  of_a_block = λ before after typed. below (block_parts (instr.Drop ∷ []) [] (refl, tt) tt typed);
  of_a_loop = λ before after typed. below (loop_parts (instr.Drop ∷ []) [] (refl, tt) tt typed);
  of_the_first_arm = λ before after typed. below (arms (instr.Drop ∷ []) [] [] (refl, tt) tt tt typed).first;
  of_the_second_arm = λ before after typed. below (arms [] (instr.Drop ∷ []) [] tt (refl, tt) tt typed).second;
  of_the_only_arm = λ before after typed. below (if_parts (instr.Drop ∷ []) [] (refl, tt) tt typed);
  of_a_try_table = λ before after typed. below (try_parts (instr.Drop ∷ []) [] (refl, tt) tt typed);
}
