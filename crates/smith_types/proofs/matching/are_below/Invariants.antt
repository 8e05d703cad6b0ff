use Rattle.smith_types.proofs.Common.{drop, ◌↔◌}
use Rattle.smith_types.specs.Matching.{AreBelow}
use Rattle.smith_types.proofs.matching.are_below.Given as goal

abbrev pub invariant-loop-i : goal.invariant-loop-i
invariant-loop-i l = AreBelow l.space.types (drop l.i l.a) (drop l.i l.b) ↔ AreBelow l.space.types l.a l.b
