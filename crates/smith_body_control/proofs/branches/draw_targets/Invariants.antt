use Rattle.smith_body_control.proofs.Common.{All, context_of, IsTaken}
use Rattle.smith_bytes.specs.Source.{KeepsPieces}
use Rattle.smith_body_control.proofs.TargetLemmas.{AreDrawnTargets}
use Rattle.smith_body_control.proofs.branches.draw_targets.Given as goal

abbrev pub invariant-loop : goal.invariant-loop
invariant-loop l = record {
  drawn : AreDrawnTargets (context_of l.scope l.labels) l.taken l.count l.initial.u l.counter l.targets l.u;
  all : All (IsTaken (context_of l.scope l.labels) l.taken) l.targets;
  kept : KeepsPieces l.fn.u l.u;
}
