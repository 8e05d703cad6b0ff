use Rattle.smith_instr.specs.declared.instr.Instr.TheVariants as instr
use Rattle.smith_instr_examples.proofs.Common.{[], ◌∷◌, refl, number, wide_number}
use Rattle.smith_instr_examples.proofs.FrameExamples.{wide_reference, wide_result, one_more}
use Rattle.smith_instr_examples.proofs.PartLemmas.{block_parts, loop_parts, if_parts, try_parts, arms, is_inner}
use Rattle.smith_instr_examples.proofs.SequenceExamples.{is_plain}
use Rattle.smith_instr_examples.proofs.frames.results.Goals as goal

pub returns : goal.returns
unfolding is_inner is_plain
returns c = record {
  block_with_another_result = λ before after typed. wide_result 1 (block_parts (wide_number 1 ∷ []) [] (refl, tt) tt typed);
  loop_with_another_result = λ before after typed. wide_result 1 (loop_parts (wide_number 1 ∷ []) [] (refl, tt) tt typed);
  first_arm_with_another_result = λ before after typed. wide_result 1 (arms (wide_number 1 ∷ []) (number 2 ∷ []) [] (refl, tt) (refl, tt) tt
      typed).first;
  second_arm_with_another_result = λ before after typed. wide_result 2 (arms (number 1 ∷ []) (wide_number 2 ∷ []) [] (refl, tt)
      (refl, tt) tt typed).second;
  only_arm_with_another_result = λ before after typed. wide_reference 1 (if_parts (instr.Drop ∷ wide_number 1 ∷ []) [] (refl, (refl, tt)) tt
      typed);
  try_table_with_another_result = λ before after typed. wide_result 1 (try_parts (wide_number 1 ∷ []) [] (refl, tt) tt typed);
  block_with_one_more = λ before after typed. one_more (block_parts (number 1 ∷ []) [] (refl, tt) tt typed);
  loop_with_one_more = λ before after typed. one_more (loop_parts (number 1 ∷ []) [] (refl, tt) tt typed);
  first_arm_with_one_more = λ before after typed. one_more (arms (number 1 ∷ []) [] [] (refl, tt) tt tt typed).first;
  second_arm_with_one_more = λ before after typed. one_more (arms [] (number 1 ∷ []) [] tt (refl, tt) tt typed).second;
  only_arm_with_one_more = λ before after typed. one_more (if_parts (number 1 ∷ []) [] (refl, tt) tt typed);
}
