use Rattle.smith_draw_types.proofs.Common.{drop, HeapType, length, slice_get, Some, ◌<◌, ◌≡◌}
use Rattle.smith_draw_types.specs.Offered.{of_kinds}
use Rattle.smith_draw_types.proofs.offers.offered_of_kinds.Given as goal

abbrev pub invariant-loop-kind : goal.invariant-loop-kind
invariant-loop-kind l = record {
  inside : l.left < length (of_kinds l.space.types l.shared (drop l.kind-index l.kinds));
  same : (x : HeapType) → slice_get (of_kinds l.space.types l.shared (drop l.kind-index l.kinds)) l.left ≡ Some x
      → slice_get (of_kinds l.space.types l.shared l.kinds) l.place ≡ Some x;
}
