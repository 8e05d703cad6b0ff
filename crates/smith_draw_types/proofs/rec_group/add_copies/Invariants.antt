use Rattle.smith_draw_types.proofs.Common.{drop, take, ◌++◌, ◌-◌, ◌≡◌}
use Rattle.smith_draw_types.proofs.rec_group.add_copies.Given as goal

abbrev pub invariant-loop-index : goal.invariant-loop-index
invariant-loop-index l = record {
  types : l.types.types ≡ l.fn.types.types ++ take (l.index - l.start) (drop l.start l.fn.types.types);
  groups : l.types.groups ≡ l.fn.types.groups;
}
