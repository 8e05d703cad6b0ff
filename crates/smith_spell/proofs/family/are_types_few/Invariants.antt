use Rattle.smith_spell.proofs.Common.{drop, flat_map, length, List, SubType, ◌+◌, ◌≡◌}
use Rattle.smith_spell.proofs.family.are_types_few.Given as goal

abbrev pub invariant-loop-group : goal.invariant-loop-group
invariant-loop-group l = length (flat_map (λ (group : List SubType). group) l.groups) + l.left
    ≡ length (flat_map (λ (group : List SubType). group) (drop l.group-index l.groups)) + l.fn.most
