use Rattle.smith_instr.specs.declared.instr.Instr.TheVariants as instr
use Rattle.smith_instr_examples.proofs.Common.{[], ◌∷◌, refl}
use Rattle.smith_instr_examples.proofs.FrameExamples.{wide_parameter, wide_condition}
use Rattle.smith_instr_examples.proofs.PartLemmas.{block_parts, loop_parts, if_parts, try_parts, arms, is_inner}
use Rattle.smith_instr_examples.proofs.SequenceExamples.{is_plain, step_of}
use Rattle.smith_instr_examples.proofs.frames.operands.Goals as goal

pub returns : goal.returns
unfolding is_inner is_plain
returns c = record {
  block_of_another_type = λ body. let (between, first, more) = step_of refl body.typed in
      wide_parameter 1 first (block_parts (instr.Drop ∷ []) [] (refl, tt) tt more);
  loop_of_another_type = λ body. let (between, first, more) = step_of refl body.typed in
      wide_parameter 1 first (loop_parts (instr.Drop ∷ []) [] (refl, tt) tt more);
  try_table_of_another_type = λ body. let (between, first, more) = step_of refl body.typed in
      wide_parameter 1 first (try_parts (instr.Drop ∷ []) [] (refl, tt) tt more);
  if_by_a_wide_number = λ body. let (between, first, more) = step_of refl body.typed in wide_condition 1 first (if_parts [] [] tt tt more);
  if_with_an_else_by_a_wide_number = λ body. let (between, first, more) = step_of refl body.typed in
      wide_condition 1 first (arms [] [] [] tt tt tt more).first;
}
