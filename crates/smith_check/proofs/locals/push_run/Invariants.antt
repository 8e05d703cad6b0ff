use Rattle.smith_check.proofs.Common.{◌++◌, ◌≡◌}
use Rattle.std.proofs.Common.{replicate}
use Rattle.smith_check.proofs.locals.push_run.Given as goal

abbrev pub invariant-loop : goal.invariant-loop
invariant-loop l = l.made ≡ l.fn.made ++ replicate l.counter l.ty
