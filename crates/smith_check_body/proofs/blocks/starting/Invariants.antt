use Rattle.smith_check_body.proofs.Common.{take, values, ◌≡◌}
use Rattle.smith_check_body.proofs.blocks.starting.Given as goal

abbrev pub invariant-loop-value : goal.invariant-loop-value
invariant-loop-value l = l.room.items ≡ values (take l.value-index l.params)
