use Rattle.std.proofs.Common.{[], ◌∷◌, refl}
use Rattle.smith_bytes.proofs.PieceLemmas.{piece_same, keeps_drop, keeps_take}
use Rattle.smith_bytes_examples.proofs.PieceTestLemmas.{piece_has}
use Rattle.smith_bytes_examples.proofs.source.kept_pieces.Goals as goal

pub returns-clause-taken_from_the_front : goal.returns-clause-taken_from_the_front
returns-clause-taken_from_the_front c = λ whole piece. keeps_drop 1 refl piece

pub returns-clause-taken_from_the_end : goal.returns-clause-taken_from_the_end
returns-clause-taken_from_the_end c = λ whole piece. keeps_take 2 refl piece

pub returns-clause-taken_from_the_middle : goal.returns-clause-taken_from_the_middle
returns-clause-taken_from_the_middle c = λ kept. cc (piece_has (kept (1 ∷ 2 ∷ 3 ∷ []) (piece_same (1 ∷ 2 ∷ 3 ∷ []))))

pub returns-clause-turned_round : goal.returns-clause-turned_round
returns-clause-turned_round c = λ kept. cc (piece_has (kept (1 ∷ 2 ∷ []) (piece_same (1 ∷ 2 ∷ []))))

pub returns-clause-given_back : goal.returns-clause-given_back
returns-clause-given_back c = λ kept. cc (piece_has (kept (2 ∷ []) (piece_same (2 ∷ []))))
