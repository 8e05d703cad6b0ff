use Rattle.smith_check.proofs.Common.{features_in, take}
use Rattle.std.specs.List.{All}
use Rattle.smith_check.specs.Locals.{IsRunRight}
use Rattle.smith_check.proofs.locals.first_wrong_run.Given as goal

abbrev pub invariant-loop-i : goal.invariant-loop-i
invariant-loop-i l = All (IsRunRight (features_in l.features) l.end l.indices) (take l.i l.runs)
