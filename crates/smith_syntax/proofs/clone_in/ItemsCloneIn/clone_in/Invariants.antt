use Rattle.std.proofs.Common.{◌≡◌, take}
use Rattle.smith_syntax.proofs.clone_in.ItemsCloneIn.clone_in.Given as goal

abbrev pub invariant-loop-item : goal.invariant-loop-item
invariant-loop-item g l = l.copies ≡ take l.item-index l.item-items
