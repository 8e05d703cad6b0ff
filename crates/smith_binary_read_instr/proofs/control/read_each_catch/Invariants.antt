use Rattle.smith_binary_read_instr.proofs.Common.{each_at, with_front, ◌-◌, ◌≡◌}
use Rattle.smith_binary_read_instr.specs.ControlReadings.{catch_at}
use Rattle.smith_binary_read_instr.proofs.control.read_each_catch.Given as goal

abbrev pub invariant-loop : goal.invariant-loop
invariant-loop l = with_front l.items.items (each_at catch_at (l.count - l.counter) l.reader) ≡ each_at catch_at l.count l.fn.reader
