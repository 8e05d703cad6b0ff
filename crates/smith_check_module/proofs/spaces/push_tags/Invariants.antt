use Rattle.smith_check_module.proofs.Common.{canonical_index, map, tag_index, take, ◌++◌, ◌≡◌}
use Rattle.smith_check_module.proofs.spaces.push_tags.Given as goal

abbrev pub invariant-loop-item : goal.invariant-loop-item
invariant-loop-item l = l.made ≡ l.initial.made ++ map (canonical_index l.indices) (map tag_index (take l.item-index l.list))
