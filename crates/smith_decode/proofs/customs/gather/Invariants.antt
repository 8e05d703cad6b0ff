use Rattle.smith_decode.proofs.Common.{[], None, ◌-◌, ◌≡◌}
use Rattle.smith_decode.specs.CustomReadings.{gathered_at}
use Rattle.smith_decode.proofs.customs.gather.Given as goal

abbrev pub invariant-loop : goal.invariant-loop
invariant-loop l = gathered_at (l.most - l.counter) l.after l.customs.items l.reader ≡ gathered_at l.most None [] l.fn.reader
