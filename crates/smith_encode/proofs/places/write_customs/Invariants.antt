use Rattle.smith_encode.proofs.Common.{length}
use Rattle.smith_encode.specs.Places.{WritesCustoms}
use Rattle.smith_encode.proofs.places.write_customs.Given as goal

abbrev pub invariant-loop-custom : goal.invariant-loop-custom
invariant-loop-custom l = WritesCustoms (l.place.after, l.place.customs.now) (l.place.after, l.customs) l.fn.sink l.sink

abbrev pub decreases-loop-custom : goal.decreases-loop-custom
decreases-loop-custom l = length l.customs
