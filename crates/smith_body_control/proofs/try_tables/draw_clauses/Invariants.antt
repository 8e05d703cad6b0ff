use Rattle.smith_body_control.proofs.Common.{All, AreDrawnSoFar, context_of, IsCatch}
use Rattle.smith_bytes.specs.Source.{KeepsPieces}
use Rattle.smith_body_control.specs.TryChoices.{clauses_at}
use Rattle.smith_body_control.proofs.try_tables.draw_clauses.Given as goal

abbrev pub invariant-loop : goal.invariant-loop
invariant-loop l = record {
  drawn : AreDrawnSoFar (clauses_at (context_of l.scope l.labels)) l.count l.initial.u l.counter l.clauses l.u;
  all : All (IsCatch (context_of l.scope l.labels)) l.clauses;
  kept : KeepsPieces l.fn.u l.u;
}
