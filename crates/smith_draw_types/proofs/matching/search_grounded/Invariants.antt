use Rattle.smith_draw_types.proofs.Common.{drop, filter, slice_get, ◌≡◌}
use Rattle.smith_draw_types.specs.Grounding.{is_grounded}
use Rattle.smith_draw_types.specs.Offered.{gc_subtypes}
use Rattle.smith_draw_types.proofs.matching.search_grounded.Given as goal

abbrev pub invariant-loop-at : goal.invariant-loop-at
invariant-loop-at l =
    slice_get (filter (is_grounded l.standing) (drop l.at (gc_subtypes l.config l.standing.types l.ty))) l.left
    ≡ slice_get (filter (is_grounded l.standing) (drop 1 (gc_subtypes l.config l.standing.types l.ty))) l.place
