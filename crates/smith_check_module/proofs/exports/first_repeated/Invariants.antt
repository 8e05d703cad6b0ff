use Rattle.smith_check_module.proofs.Common.{bytes_eq, export_triple, IsTrue, List, map, ℕ, ◌↔◌}
use Rattle.std.proofs.Common.{Bor}
use Rattle.std.specs.HashSet.{contains}
use Rattle.smith_check_module.proofs.RepeatedLemmas.{IsNameUsed, AreNew}
use Rattle.smith_check_module.proofs.exports.first_repeated.Given as goal

abbrev pub invariant-loop-i : goal.invariant-loop-i
invariant-loop-i l = record {
  known : (q : Bor (List ℕ)) → IsTrue (contains (λ (a b : Bor (List ℕ)). bytes_eq a.now b.now) l.names q)
      ↔ IsNameUsed (map export_triple l.exports) l.i q.now;
  new : AreNew (map export_triple l.exports) l.i;
}
