use Rattle.smith_draw_types.proofs.Common.{Extends, length, ◌-◌}
use Rattle.smith_draw_types.specs.RecGroups.{least_types_at}
use Rattle.smith_draw_types.specs.Grounding.{functions_of}
use Rattle.smith_draw_types.proofs.GroupsLoop.{IsReaching}
use Rattle.smith_draw_types.proofs.rec_group.add_least_types.Given as goal

abbrev pub invariant-loop-types : goal.invariant-loop-types
invariant-loop-types l = record {
  so_far : IsReaching l.config (functions_of l.config l.grounds) l.types l.fn.u l.u
      (least_types_at l.config (functions_of l.config l.grounds) l.config.min_types l.fn.types l.fn.u);
  longer : Extends l.fn.types.types l.types.types;
}

abbrev pub decreases-loop-types : goal.decreases-loop-types
decreases-loop-types l = l.config.min_types - length l.types.types
