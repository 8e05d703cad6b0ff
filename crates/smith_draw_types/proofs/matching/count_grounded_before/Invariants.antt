use Rattle.smith_draw_types.proofs.Common.{drop, filter, length, ◌+◌, ◌<◌, ◌≡◌, ◌≤◌}
use Rattle.smith_draw_types.specs.Grounding.{is_grounded}
use Rattle.smith_draw_types.specs.Offered.{gc_subtypes}
use Rattle.smith_draw_types.proofs.matching.count_grounded_before.Given as goal

abbrev pub invariant-loop-place : goal.invariant-loop-place
invariant-loop-place l = record {
  counted : l.grounded + length (filter (is_grounded l.standing) (drop l.place (gc_subtypes l.config l.standing.types l.ty)))
      ≡ length (filter (is_grounded l.standing) (drop 1 (gc_subtypes l.config l.standing.types l.ty)));
  within : l.grounded < l.place;
  before : l.place ≤ l.end;
}
