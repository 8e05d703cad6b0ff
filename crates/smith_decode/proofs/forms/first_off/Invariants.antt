use Rattle.smith_decode.proofs.Common.{take}
use Rattle.std.specs.List.{All}
use Rattle.smith_decode.proofs.forms.first_off.Given as goal

abbrev pub invariant-loop-i : goal.invariant-loop-i
invariant-loop-i g l = All (g.P.Predicate.meaning l.predicate) (take l.i l.items)
