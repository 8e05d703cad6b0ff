use Rattle.smith_decode.proofs.Common.{◌-◌, ◌≡◌}
use Rattle.smith_decode.specs.Locations.{after_each_at}
use Rattle.smith_decode.proofs.locations.pass_each.Given as goal

abbrev pub invariant-loop : goal.invariant-loop
invariant-loop g l = after_each_at g.T.Decode.reading (l.count - l.counter) l.reader ≡ after_each_at g.T.Decode.reading l.count l.fn.reader
