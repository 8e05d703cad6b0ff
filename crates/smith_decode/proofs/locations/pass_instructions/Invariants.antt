use Rattle.smith_decode.proofs.Common.{instr_at, ◌-◌, ◌≡◌}
use Rattle.smith_decode.specs.Locations.{after_each_at}
use Rattle.smith_decode.proofs.locations.pass_instructions.Given as goal

abbrev pub invariant-loop : goal.invariant-loop
invariant-loop l = after_each_at instr_at (l.count - l.counter) l.reader ≡ after_each_at instr_at l.count l.fn.reader
