use Rattle.smith_decode.proofs.Common.{◌-◌, ◌≡◌}
use Rattle.smith_decode.specs.CustomReadings.{skip_customs}
use Rattle.smith_decode.proofs.sections.skip_most.Given as goal

abbrev pub invariant-loop : goal.invariant-loop
invariant-loop l = skip_customs (l.most - l.counter) l.reader ≡ skip_customs l.most l.fn.reader
