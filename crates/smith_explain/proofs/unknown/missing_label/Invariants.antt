use Rattle.std.proofs.Common.{ℕ, ◌<◌, take}
use Rattle.std.specs.Prelude.{All}
use Rattle.smith_explain.proofs.unknown.missing_label.Given as goal

abbrev pub invariant-loop-i : goal.invariant-loop-i
invariant-loop-i l = All (λ (label : ℕ). label < l.labels) (take l.i l.targets)
