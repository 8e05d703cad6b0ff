use Rattle.smith_encode.proofs.Common.{drop, list_all, ◌≡◌}
use Rattle.smith_encode.proofs.spelled.are_spelled.Given as goal

abbrev pub invariant-loop-item : goal.invariant-loop-item
invariant-loop-item g l = list_all g.T.Spell.is_spelled (drop l.item-index l.items) ≡ list_all g.T.Spell.is_spelled l.items
