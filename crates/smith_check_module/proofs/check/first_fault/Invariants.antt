use Rattle.smith_check_module.proofs.Common.{take}
use Rattle.std.specs.List.{All}
use Rattle.smith_check_module.specs.Judges.{AreRight}
use Rattle.smith_check_module.proofs.check.first_fault.Given as goal

abbrev pub invariant-loop-part : goal.invariant-loop-part
invariant-loop-part l = All (AreRight l.judge) (take l.part-index l.part-items)
