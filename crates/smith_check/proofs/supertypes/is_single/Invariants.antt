use Rattle.smith_check.proofs.Common.{length, List, ℕ, ◌≡◌}
use Rattle.std.proofs.Common.{drop, eqb}
use Rattle.std.specs.List.{list_all}
use Rattle.smith_check.proofs.supertypes.is_single.Given as goal

abbrev pub invariant-loop-further : goal.invariant-loop-further
invariant-loop-further l =
    list_all (λ (further : List ℕ). eqb (length further) 0) (drop l.further-index l.group)
    ≡ list_all (λ (further : List ℕ). eqb (length further) 0) l.group
