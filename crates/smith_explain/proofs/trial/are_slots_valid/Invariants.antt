use Rattle.std.proofs.Common.{take}
use Rattle.smith_check_operands.specs.Scopes.{bare}
use Rattle.smith_check_rules.specs.Slots.{AreSlotsValid}
use Rattle.smith_explain.proofs.trial.are_slots_valid.Given as goal

abbrev pub invariant-loop-slot : goal.invariant-loop-slot
invariant-loop-slot l = AreSlotsValid (bare l.scope) (take l.slot-index l.slots)
