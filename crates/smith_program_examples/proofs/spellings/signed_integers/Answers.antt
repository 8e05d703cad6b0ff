use Rattle.smith_program_examples.proofs.Common.{[], arith, ◌∷◌, ◌≤◌}
use Rattle.smith_binary.proofs.NumberLemmas.{positive_last}
use Rattle.smith_program_examples.proofs.spellings.signed_integers.Goals as goal

pub returns : goal.returns
returns c =
    let short = positive_last 33 5 (omega arith) (omega arith) in
    record {
      in_one_byte = short;
      longer = λ h. let least : 2 ≤ 1 = h.least (0x05 ∷ []) short.spelled in omega (arith, least);
    }
