use Rattle.smith_encode.proofs.Common.{drop, ◌≡◌}
use Rattle.smith_encode.specs.Spelled.{all_paired, are_types_spelled}
use Rattle.smith_encode.proofs.spelled.are_groups_spelled.Given as goal

abbrev pub invariant-loop-i : goal.invariant-loop-i
invariant-loop-i l = all_paired are_types_spelled (drop l.i l.types) (drop l.i l.further) ≡ all_paired are_types_spelled l.types l.further
