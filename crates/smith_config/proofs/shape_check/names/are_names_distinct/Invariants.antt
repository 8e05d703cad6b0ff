use Rattle.std.proofs.Common.{◌≡◌, ℕ, List, take, Bor}
use Rattle.std.specs.Str.{bytes_eq}
use Rattle.std.specs.HashSet.{contains}
use Rattle.smith_types.specs.Exports.{AreDistinct}
use Rattle.smith_config.proofs.NamesInSetLemmas.{has, names_of}
use Rattle.smith_config.proofs.shape_check.names.are_names_distinct.Given as goal

abbrev pub invariant-loop-one : goal.invariant-loop-one
invariant-loop-one l = record {
  known : (q : Bor (List ℕ)) → contains (λ (a b : Bor (List ℕ)). bytes_eq a.now b.now) l.names q
      ≡ has (names_of (take l.one-index l.exports)) q.now;
  distinct : AreDistinct (names_of (take l.one-index l.exports));
}
