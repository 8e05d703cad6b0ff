use Rattle.smith_body_nodes.proofs.Common.{arith, ◌+◌, ◌-◌, ◌≡◌}
use Rattle.std.proofs.Common.{◌*◌}
use Rattle.std.specs.Prelude.{min}
use Rattle.smith_body_nodes.proofs.OfferedLemmas.{chosen_in_chunk}
use Rattle.smith_body_nodes.proofs.offer.choose_in_chunk.Goals as goal

pub returns-in_err-index-clause-exact : goal.returns-in_err-index-clause-exact
returns-in_err-index-clause-exact g c =
    let drawn = rw (c.new.ensures.start, c.new.ensures.end, c.saturating_sub.ensures, c.count-count.ensures) at
    c.int_in_range-start.ensures.exact in
    let counted : 256 * c.int_in_range-start.result + c.min.result - 256 * c.int_in_range-start.result
    ≡ min (g.O.Offer.size c.args.offer.now - 256 * c.int_in_range-start.result) 256 = omega arith in
    rw c.from_residual.ensures (chosen_in_chunk _ _ c.args.u.now _ _ c.int_in_range-start.result _ _ drawn counted
    c.in_err-index.ensures.exact)

pub returns-clause-exact : goal.returns-clause-exact
returns-clause-exact g c =
    let drawn = rw (c.new.ensures.start, c.new.ensures.end, c.saturating_sub.ensures, c.count-count.ensures) at
    c.int_in_range-start.ensures.exact in
    let counted : 256 * c.int_in_range-start.result + c.min.result - 256 * c.int_in_range-start.result
    ≡ min (g.O.Offer.size c.args.offer.now - 256 * c.int_in_range-start.result) 256 = omega arith in
    chosen_in_chunk _ _ c.args.u.now _ _ c.int_in_range-start.result _ _ drawn counted c.in_ok-index.ensures.exact
