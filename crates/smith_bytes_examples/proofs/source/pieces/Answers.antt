use Rattle.std.proofs.Common.{[], ◌∷◌, refl}
use Rattle.smith_bytes_examples.proofs.PieceTestLemmas.{piece_has}
use Rattle.smith_bytes_examples.proofs.source.pieces.Goals as goal

pub returns-clause-front : goal.returns-clause-front
returns-clause-front c = record { before = []; after = 3 ∷ []; parts = refl }

pub returns-clause-middle : goal.returns-clause-middle
returns-clause-middle c = record { before = 1 ∷ []; after = 3 ∷ []; parts = refl }

pub returns-clause-end : goal.returns-clause-end
returns-clause-end c = record { before = 1 ∷ []; after = []; parts = refl }

pub returns-clause-whole : goal.returns-clause-whole
returns-clause-whole c = record { before = []; after = []; parts = refl }

pub returns-clause-not_contiguous : goal.returns-clause-not_contiguous
returns-clause-not_contiguous c = λ piece. cc (piece_has piece)

pub returns-clause-out_of_order : goal.returns-clause-out_of_order
returns-clause-out_of_order c = λ piece. cc (piece_has piece)

pub returns-clause-another_byte : goal.returns-clause-another_byte
returns-clause-another_byte c = λ piece. cc (piece_has piece)

pub returns-clause-longer : goal.returns-clause-longer
returns-clause-longer c = λ piece. cc (piece_has piece)

pub returns-clause-of_nothing : goal.returns-clause-of_nothing
returns-clause-of_nothing c = λ piece. cc (piece_has piece)
