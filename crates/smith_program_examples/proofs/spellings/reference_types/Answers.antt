use Rattle.smith_program_examples.proofs.Common.{[], ap, arith, length, refl, ℕ, ◌∷◌, ◌≡◌}
use Rattle.smith_binary.proofs.NumberLemmas.{positive_last}
use Rattle.smith_binary_sections.specs.Types.IsRefType.{full}
use Rattle.smith_program_examples.proofs.SpellingExamples.{both}
use Rattle.smith_program_examples.proofs.spellings.reference_types.Goals as goal

pub returns : goal.returns
returns c = record {
  alone = refl;
  without_null = refl;
  to_shared_values = refl;
  to_a_type = refl;
  to_exactly_a_type = refl;
  in_one_byte = refl;
  longer = λ same. let lengths : ◌≡◌ {A = ℕ} 2 1 = ap length same in omega (arith, lengths);
  longer_in_any_spelling = full (both (0x63 ∷ []) (0x70 ∷ []) refl refl);
  to_functions = both (0x64 ∷ []) (0x70 ∷ []) refl refl;
  to_the_fifth_type = both (0x63 ∷ []) (0x05 ∷ []) refl (positive_last 33 5 (omega arith) (omega arith));
}
