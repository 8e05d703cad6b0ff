use Rattle.smith_body_nodes.proofs.Common.{length, ◌≡◌, ◌≤◌}
use Rattle.smith_body_nodes.specs.Offered.{offered}
use Rattle.smith_body_nodes.proofs.offer.count_offered.Given as goal

abbrev pub invariant-loop-index : goal.invariant-loop-index
invariant-loop-index g l = record {
  counted : l.count ≡ length (offered (g.O.Offer.test l.offer) l.index);
  few : l.count ≤ l.index;
}
