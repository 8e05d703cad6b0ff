use Rattle.smith_spell_examples.proofs.Common.{[], digit_count, refl, subst, ℕ, ◌∷◌, ◌≡◌}
use Rattle.std.proofs.Common.{Some, suc, zero}
use Rattle.std.specs.Prelude.{slice_get}
use Rattle.smith_spell_examples.proofs.spelled_types.places.Goals as goal

pub returns-clause-a_place : goal.returns-clause-a_place
unfolding digit_count
returns-clause-a_place c = record { place = 1; stands = refl; number = record { digits = refl; read = refl } }

pub returns-clause-another_place : goal.returns-clause-another_place
unfolding digit_count
returns-clause-another_place c = λ h.
    let number = h.number in
    let first : slice_get {X = ℕ} (7 ∷ 8 ∷ []) 0 ≡ Some 8 = subst (λ place. slice_get {X = ℕ} (7 ∷ 8 ∷ []) place ≡ Some 8) number.read
    h.stands in
    cc first

pub returns-clause-not_in_the_list : goal.returns-clause-not_in_the_list
returns-clause-not_in_the_list c = λ h. of h.place h.stands
  where
    of : (place : ℕ) → slice_get {X = ℕ} (7 ∷ []) place ≡ Some 8 → ⊥
    of zero stands = cc stands
    of (suc place) stands = cc stands
