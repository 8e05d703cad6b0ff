use Rattle.std.proofs.Common.{[], ◌∷◌, true, refl}
use Rattle.smith_bytes_examples.proofs.takes.taken.Goals as goal

pub returns-clause-another_value : goal.returns-clause-another_value
returns-clause-another_value c = λ takes. cc (takes.made true (3 ∷ []) (9 ∷ []) (record { byte = 3; whole = refl; lowest = refl }) refl)

pub returns-clause-piece_is_left : goal.returns-clause-piece_is_left
returns-clause-piece_is_left c = λ takes. cc (takes.left true (3 ∷ []) (9 ∷ []) (record { byte = 3; whole = refl; lowest = refl }) refl)

pub returns-clause-too_much_taken : goal.returns-clause-too_much_taken
returns-clause-too_much_taken c = λ takes. cc (takes.left true (3 ∷ []) (9 ∷ []) (record { byte = 3; whole = refl; lowest = refl }) refl)
