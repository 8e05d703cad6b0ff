use Rattle.std.proofs.Common.{◌≡◌, ℕ, List, [], ◌∷◌, refl, arith}
use Rattle.std.specs.Prelude.{Some, slice_get}
use Rattle.smith_draw_examples.proofs.kept_offers.recorded.Goals as goal

abbrev without_places : List ℕ
without_places = 5 ∷ 7 ∷ []

abbrev exchanged : List ℕ
exchanged = 8 ∷ 5 ∷ []

pub returns-clause-without_its_place : goal.returns-clause-without_its_place
returns-clause-without_its_place c = λ are.
    let wrong : slice_get without_places 1 ≡ Some 8 = are.same 1 7 (omega arith) refl in
    cc

pub returns-clause-in_another_order : goal.returns-clause-in_another_order
returns-clause-in_another_order c = λ are.
    let wrong : slice_get exchanged 0 ≡ Some 5 = are.same 0 5 (omega arith) refl in
    cc
