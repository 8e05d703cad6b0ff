use Rattle.smith_draw_types.proofs.Common.{drop, ◌++◌, ◌≡◌}
use Rattle.smith_draw_types.specs.TypeUses.{places_from, may_be_used, types_for}
use Rattle.smith_draw_types.proofs.type_use.list_types.Given as goal

abbrev pub invariant-loop-index : goal.invariant-loop-index
invariant-loop-index l = l.indices ++ places_from (may_be_used l.for_use) l.index (drop l.index l.types) ≡ types_for l.for_use l.types
