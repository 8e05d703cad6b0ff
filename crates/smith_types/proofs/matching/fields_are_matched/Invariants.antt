use Rattle.smith_types.proofs.Common.{drop, ◌↔◌}
use Rattle.smith_types.specs.Matching.{AreFieldsMatched}
use Rattle.smith_types.proofs.matching.fields_are_matched.Given as goal

abbrev pub invariant-loop-i : goal.invariant-loop-i
invariant-loop-i l = AreFieldsMatched l.space.types (drop l.i l.a) (drop l.i l.b) ↔ AreFieldsMatched l.space.types l.a l.b
