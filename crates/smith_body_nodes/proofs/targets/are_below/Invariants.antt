use Rattle.smith_body_nodes.proofs.Common.{drop, ◌≡◌}
use Rattle.smith_body_nodes.specs.Offered.{are_below}
use Rattle.smith_body_nodes.specs.Scopes.{bare}
use Rattle.smith_body_nodes.proofs.targets.are_below.Given as goal

abbrev pub invariant-loop-index : goal.invariant-loop-index
invariant-loop-index l = are_below (bare l.scope).types l.values l.wanted ≡ are_below (bare l.scope).types (drop l.index l.values)
    (drop l.index l.wanted)
