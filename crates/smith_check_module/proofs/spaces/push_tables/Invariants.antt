use Rattle.smith_check_module.proofs.Common.{canonical_index, map, take, ◌++◌, ◌≡◌}
use Rattle.smith_check_module.specs.CanonicalModules.{renamed_table}
use Rattle.smith_check_module.proofs.spaces.push_tables.Given as goal

abbrev pub invariant-loop-item : goal.invariant-loop-item
invariant-loop-item l = l.made ≡ l.initial.made ++ map (renamed_table (canonical_index l.indices)) (take l.item-index l.list)
