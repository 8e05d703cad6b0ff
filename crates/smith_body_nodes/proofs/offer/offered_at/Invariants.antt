use Rattle.smith_body_nodes.proofs.Common.{length, ◌+◌, ◌≡◌}
use Rattle.smith_body_nodes.specs.Offered.{offered}
use Rattle.smith_body_nodes.proofs.offer.offered_at.Given as goal

abbrev pub invariant-loop-index : goal.invariant-loop-index
invariant-loop-index g l = l.rest + length (offered (g.O.Offer.test l.offer) l.index) ≡ l.place
