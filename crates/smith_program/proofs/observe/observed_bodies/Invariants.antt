use Rattle.smith_program.proofs.Common.{length, ◌≡◌}
use Rattle.smith_program.proofs.ObservedBodiesLemmas.{AreObservedTo}
use Rattle.smith_program.proofs.observe.observed_bodies.Given as goal

abbrev pub invariant-loop-place : goal.invariant-loop-place
invariant-loop-place l = record {
  each : length l.made ≡ l.place;
  observed : AreObservedTo l.place l.first l.«module» l.bodies l.made;
}
