use Rattle.smith_check_branches.proofs.Common.{All, bare, IsTaken, label_of, labels_of, length, reverse, take, with_labels, ◌∷◌}
use Rattle.smith_check_branches.specs.Tops.{top_of}
use Rattle.smith_check_branches.proofs.branch_tables.br_table.Given as goal

abbrev pub invariant-loop-index : goal.invariant-loop-index
invariant-loop-index l = All (IsTaken (with_labels (bare l.scope) (label_of l.shape ∷ labels_of (reverse l.outers)))
    (top_of l.operands.known.items (length l.given))) (take l.index-index l.labels)
