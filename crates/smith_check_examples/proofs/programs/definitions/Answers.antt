use Rattle.std.proofs.Common.{[], arith, refl}
use Rattle.smith_check_examples.proofs.ProgramLemmas.{no_tag}
use Rattle.smith_check_examples.proofs.programs.definitions.Goals as goal

pub returns : goal.returns
returns c = record {
  function_without_a_body = λ valid. omega (arith, valid.bodies);
  one_name_for_two_exports = λ valid. omega (arith, valid.sections.exports.distinct.once 0 1 [] refl refl);
  export_of_a_missing_tag = no_tag;
}
