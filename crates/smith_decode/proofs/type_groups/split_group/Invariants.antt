use Rattle.std.proofs.Common.{◌≡◌, ◌++◌, length}
use Rattle.std.specs.Vec.Iter.{into_iter_items, into_iter_len}
use Rattle.smith_decode.specs.TypeGroups.{further_in, types_in}
use Rattle.smith_decode.proofs.type_groups.split_group.Given as goal

abbrev pub invariant-loop-declared : goal.invariant-loop-declared
invariant-loop-declared l = record {
  yields : l.yielded ++ into_iter_items l.declared-iterator ≡ into_iter_items l.initial.declared-iterator;
  left : into_iter_len l.declared-iterator ≡ length (into_iter_items l.declared-iterator);
  types : l.types.items ≡ types_in l.yielded;
  further : l.further.items ≡ further_in l.yielded;
}
