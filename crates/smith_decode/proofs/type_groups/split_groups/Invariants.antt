use Rattle.std.proofs.Common.{◌≡◌, ◌++◌, length}
use Rattle.std.specs.Vec.Iter.{into_iter_items, into_iter_len}
use Rattle.smith_decode.specs.TypeGroups.{groups_further, groups_types}
use Rattle.smith_decode.proofs.type_groups.split_groups.Given as goal

abbrev pub invariant-loop-group : goal.invariant-loop-group
invariant-loop-group l = record {
  yields : l.yielded ++ into_iter_items l.group-iterator ≡ into_iter_items l.initial.group-iterator;
  left : into_iter_len l.group-iterator ≡ length (into_iter_items l.group-iterator);
  types : l.types.items ≡ groups_types l.yielded;
  further : l.further.items ≡ groups_further l.yielded;
}
