use Rattle.smith_check_branches.proofs.Common.{All, bare, IsCatch, label_of, labels_of, reverse, take, with_labels, ◌∷◌}
use Rattle.smith_check_branches.proofs.catches.are_catches.Given as goal

abbrev pub invariant-loop-clause : goal.invariant-loop-clause
invariant-loop-clause l = All (IsCatch (with_labels (bare l.scope) (label_of l.shape ∷ labels_of (reverse l.outers))))
    (take l.clause-index l.clauses)
