use Rattle.smith_body.proofs.Common.{[], drop, length, take, ◌-◌, ◌≡◌}
use Rattle.smith_bytes.specs.Source.{KeepsPieces}
use Rattle.smith_body.specs.Bodies.{settled_all}
use Rattle.smith_body.specs.DraftSteps.{IsDrawn, state_of}
use Rattle.smith_body.proofs.settled.settle_values.Given as goal

abbrev pub invariant-loop-place : goal.invariant-loop-place
invariant-loop-place l = record {
  drawn : IsDrawn l.scope l.values (take (length l.values - l.place) l.values) l.place l.fn.draft l.draft;
  exact : settled_all l.scope.config.now (drop (length l.values - l.place) l.values) (state_of l.scope l.fn.draft l.fn.u)
      ≡ state_of l.scope l.draft l.u;
  kept : KeepsPieces l.fn.u l.u;
}
