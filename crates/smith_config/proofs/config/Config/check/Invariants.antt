use Rattle.std.proofs.Common.{take}
use Rattle.std.specs.List.{All}
use Rattle.smith_config.specs.Faults.{HasFault}
use Rattle.smith_config.proofs.config.Config.check.Given as goal

abbrev pub invariant-loop-fault : goal.invariant-loop-fault
invariant-loop-fault l = All (λ fault. ¬ HasFault l.self fault) (take l.fault-index l.fault-items)
