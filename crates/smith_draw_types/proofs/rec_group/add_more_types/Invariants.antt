use Rattle.smith_draw_types.proofs.Common.{Extends, length, ◌+◌}
use Rattle.smith_draw_types.specs.RecGroups.{more_types_at}
use Rattle.smith_draw_types.specs.Grounding.{functions_of}
use Rattle.smith_draw_types.proofs.GroupsLoop.{IsAdding}
use Rattle.smith_draw_types.proofs.rec_group.add_more_types.Given as goal

abbrev pub invariant-loop-types : goal.invariant-loop-types
invariant-loop-types l = record {
  so_far : IsAdding l.config (functions_of l.config l.grounds) l.types l.fn.u l.u (more_types_at l.config (functions_of l.config l.grounds)
      (length l.fn.u + 1) l.fn.types l.fn.u);
  longer : Extends l.fn.types.types l.types.types;
}

abbrev pub decreases-loop-types : goal.decreases-loop-types
decreases-loop-types l = length l.u
