use Rattle.smith_body_memory.proofs.Common.{length, ℕ, ◌<◌, ◌≡◌}
use Rattle.std.proofs.Common.{take}
use Rattle.std.specs.Prelude.{All}
use Rattle.smith_bytes.specs.Source.{KeepsPieces}
use Rattle.smith_body_memory.specs.VectorChoices.{shuffled_at}
use Rattle.smith_body_memory.proofs.vectors.draw_shuffle.Given as goal

abbrev pub invariant-loop-index : goal.invariant-loop-index
invariant-loop-index l = record {
  drawn : shuffled_at l.index l.fn.u ≡ (take l.index l.lanes, l.u);
  within : All (λ (lane : ℕ). lane < 32) l.lanes;
  long : length l.lanes ≡ 16;
  kept : KeepsPieces l.fn.u l.u;
}
