use Rattle.smith_body_leaves.proofs.Common.{drop, field_values, where_stands, ◌++◌, ◌≡◌}
use Rattle.smith_body_leaves.specs.Leaves.{singles}
use Rattle.smith_body_leaves.proofs.creations.write_singles.Given as goal

abbrev pub invariant-loop-index : goal.invariant-loop-index
invariant-loop-index l = record {
  out : l.fn.draft.out ++ singles l.scope.config.now (where_stands l.scope l.fn.draft) l.fn.draft.set.items (field_values l.fields)
      ≡ l.draft.out ++ singles l.scope.config.now (where_stands l.scope l.fn.draft) l.fn.draft.set.items
      (field_values (drop l.index l.fields));
  set : l.draft.set.items ≡ l.fn.draft.set.items;
  same : l.draft.labels.items ≡ l.fn.draft.labels.items;
  budget : l.draft.budget ≡ l.fn.draft.budget;
}
