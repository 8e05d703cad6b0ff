use Rattle.smith_draw_types.proofs.Common.{Extends, IsGrowing, ◌≡◌}
use Rattle.smith_draw_types.specs.SubTypes.{sub_type_at}
use Rattle.smith_draw_types.specs.RecGroups.{types_until_at}
use Rattle.smith_draw_types.specs.Grounding.{functions_of, over}
use Rattle.smith_draw_types.proofs.rec_group.add_types.Given as goal

abbrev pub invariant-loop-made : goal.invariant-loop-made
invariant-loop-made l = record {
  grown : IsGrowing (λ made. sub_type_at l.config (over (functions_of l.config l.grounds) made) l.limit) l.limit l.limit l.made
      l.types.types l.fn.u l.u (types_until_at l.config (functions_of l.config l.grounds) l.limit l.fn.types.types l.fn.u);
  groups : l.types.groups ≡ l.fn.types.groups;
  longer : Extends l.fn.types.types l.types.types;
}
