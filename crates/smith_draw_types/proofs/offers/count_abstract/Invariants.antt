use Rattle.smith_draw_types.proofs.Common.{drop, length, ◌+◌, ◌^◌, ◌≡◌, ◌≤◌}
use Rattle.std.proofs.Common.{◌*◌}
use Rattle.smith_draw_types.specs.Offered.{of_kinds}
use Rattle.smith_draw_types.proofs.offers.count_abstract.Given as goal

abbrev pub invariant-loop-kind : goal.invariant-loop-kind
invariant-loop-kind l = record {
  so_far : l.count + length (of_kinds l.space.types l.shared (drop l.kind-index l.kinds)) ≡ length l.abstracts + length
      (of_kinds l.space.types l.shared l.kinds);
  fits : l.count ≤ length l.abstracts + l.kind-index * 2 ^ 32;
}
