use Rattle.smith_program_examples.proofs.Common.{[], arith, List, refl, ℕ, ◌∷◌, ◌≤◌}
use Rattle.smith_binary.proofs.NumberLemmas.{unsigned_last}
use Rattle.smith_program_examples.proofs.SpellingExamples as example
use Rattle.smith_program_examples.proofs.spellings.unsigned_integers.Goals as goal

pub returns : goal.returns
returns c =
    let short = unsigned_last 32 5 (omega arith) (omega arith) in
    let two = example.in_two 5 (omega arith) in
    let five : List ℕ = 0x85 ∷ 0x80 ∷ 0x80 ∷ 0x80 ∷ 0x00 ∷ [] in
    record {
      in_one_byte = record {
        spelled = record { spelled = short.spelled; enough = omega arith };
        least = λ other h. short.least other h.spelled;
      };
      longer = λ h.
          let least : 2 ≤ 1 = h.least (0x05 ∷ []) (record { spelled = short.spelled; enough = omega arith }) in
          omega (arith, least);
      longer_in_any_spelling = two;
      in_two_bytes = example.padded 2 32 5 (0x85 ∷ 0x00 ∷ []) two refl;
      too_short = λ h. let enough : 2 ≤ 1 = h.spelled.enough in omega (arith, enough);
      that_needs_three = example.shortest_three;
      in_five_bytes = example.padded 5 32 5 five example.in_five refl;
      in_five_of_nine = example.padded 5 64 5 five example.in_five_of_more refl;
      in_six = λ h.
          let least : 6 ≤ 5 = h.least five (record { spelled = example.in_five_of_more; enough = omega arith }) in
          omega (arith, least);
    }
