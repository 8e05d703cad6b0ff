use Rattle.smith_draw_imports.proofs.Common.{decimal, length, string_bytes, ◌+◌, ◌-◌, ◌≡◌}
use Rattle.std.specs.HashSet.{hash_set_len}
use Rattle.smith_draw_imports.specs.ImportNames.{has_pair}
use Rattle.smith_draw_imports.proofs.ImportNameLemmas.{IsMaking, longest_pair}
use Rattle.smith_draw_imports.proofs.import_names.new_pair.Given as goal

abbrev pub invariant-loop-pair : goal.invariant-loop-pair
invariant-loop-pair l = record {
  from : string_bytes l.pair.0 ≡ string_bytes l.fn.from;
  making : IsMaking (has_pair l.pairs (string_bytes l.fn.from)) (decimal (hash_set_len l.pairs)) (string_bytes l.fn.text)
      (string_bytes l.pair.1);
}

abbrev pub decreases-loop-pair : goal.decreases-loop-pair
decreases-loop-pair l = longest_pair l.pairs.keys + 1 - length (string_bytes l.pair.1)
