use Rattle.smith_draw_consts.proofs.Common.{[], ap, digit_count, List, range_at, refl, ℕ, ◌∙◌, ◌∷◌, ◌≡◌}
use Rattle.smith_bytes.proofs.SpelledLemmas.{number_read}
use Rattle.smith_draw_consts.proofs.examples.spelled_constants.Goals as goal

pub returns-clause-after_a_choice : goal.returns-clause-after_a_choice
unfolding digit_count
returns-clause-after_a_choice c =
    record {
      first = 0 ∷ [];
      second = 7 ∷ 0 ∷ 0 ∷ 0 ∷ [];
      is_first = record { digits = refl; read = refl };
      is_second = record { four = refl; read = refl };
      whole = refl;
    }

pub returns-clause-after_the_other_choice : goal.returns-clause-after_the_other_choice
unfolding range_at digit_count
returns-clause-after_the_other_choice c = λ h.
    let read : range_at 0 1 (1 ∷ 7 ∷ 0 ∷ 0 ∷ 0 ∷ []) ≡ (0, h.second) = ap (range_at 0 1) h.whole ∙ number_read 0 0 1 h.first h.second
    h.is_first in
    let first : 1 ≡ 0 = ap (λ (d : ℕ × List ℕ). d.0) read in
    cc first

pub returns-clause-an_expression : goal.returns-clause-an_expression
returns-clause-an_expression c = record { number = _; alone = refl; spelled = returns-clause-after_a_choice _ }
