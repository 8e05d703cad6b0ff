use Rattle.smith_encode.proofs.Common.{drop, ◌≡◌}
use Rattle.smith_encode.specs.Spelled.{all_paired, is_type_spelled}
use Rattle.smith_encode.proofs.spelled.are_types_spelled.Given as goal

abbrev pub invariant-loop-i : goal.invariant-loop-i
invariant-loop-i l = all_paired is_type_spelled (drop l.i l.types) (drop l.i l.further) ≡ all_paired is_type_spelled l.types l.further
