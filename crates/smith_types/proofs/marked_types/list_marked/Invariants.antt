use Rattle.smith_types.proofs.Common.{vec_capacity, ◌≡◌, ◌≤◌}
use Rattle.std.specs.Prelude.{vec_len}
use Rattle.smith_types.specs.Grounds.{is_marked, indices_where}
use Rattle.smith_types.proofs.marked_types.list_marked.Given as goal

abbrev pub invariant-loop-index : goal.invariant-loop-index
invariant-loop-index l = record {
  listed : l.marked.items ≡ indices_where (is_marked l.types l.grounds l.shared) 0 l.index;
  few : vec_len l.marked ≤ l.index;
  capacity : vec_capacity l.marked ≡ vec_capacity l.fn.marked;
}
