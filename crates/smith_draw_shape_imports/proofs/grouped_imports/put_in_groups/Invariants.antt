use Rattle.smith_draw_shape_imports.proofs.Common.{[], drop, features_of, take, ◌++◌, ◌∷◌}
use Rattle.smith_bytes.specs.Source.{KeepsPieces}
use Rattle.smith_draw_shape_imports.specs.AvailableImports.{grouped_at, AreGroupsOf}
use Rattle.smith_draw_shape_imports.proofs.GroupedImportsLoop.{IsJoining}
use Rattle.smith_draw_shape_imports.proofs.grouped_imports.put_in_groups.Given as goal

abbrev pub invariant-loop-next : goal.invariant-loop-next
invariant-loop-next l = record {
  so_far : IsJoining l.config l.made l.group (drop l.next-index l.more) l.u (grouped_at l.config (l.fn.first ∷ l.more) l.fn.u);
  groups : AreGroupsOf (features_of l.config) (l.fn.first ∷ take l.next-index l.more) (l.made ++ l.group ∷ []);
  left : KeepsPieces l.fn.u l.u;
}
