use Rattle.smith_program.proofs.Common.{Code, drop, length, slice_get, Some, ℕ, ◌≡◌}
use Rattle.smith_bytes.specs.Source.{KeepsPieces}
use Rattle.smith_program.specs.Bodies.{IsDrawnAt, IsOfBody}
use Rattle.smith_program.specs.DrawnBodies.{bodies_at, bodies_from}
use Rattle.smith_program.specs.declared.program.Body.{Body}
use Rattle.smith_program.proofs.DrawnBodiesLemmas.{after}
use Rattle.smith_program.proofs.bodies.draw_each.Given as goal

abbrev pub invariant-loop-place : goal.invariant-loop-place
invariant-loop-place l = record {
  each : length l.bodies ≡ l.place;
  drawn : (k : ℕ) (body : Body) → slice_get l.bodies k ≡ Some body → (code : Code) → slice_get l.«module».code k ≡ Some code
      → IsOfBody (IsDrawnAt l.«module» k code) code body;
  exact : after l.bodies (bodies_from l.«module» l.place (drop l.place l.«module».code) l.u) ≡ bodies_at l.«module» l.fn.u;
  kept : KeepsPieces l.fn.u l.u;
}
