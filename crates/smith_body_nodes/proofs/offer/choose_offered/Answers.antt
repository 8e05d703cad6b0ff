use Rattle.smith_body_nodes.proofs.OfferedLemmas.{chosen_at_place}
use Rattle.smith_body_nodes.proofs.offer.choose_offered.Goals as goal

pub returns-clause-exact : goal.returns-clause-exact
returns-clause-exact g c =
    let drawn = rw (c.new.ensures.start, c.new.ensures.end, c.saturating_sub.ensures, c.count_offered-count.ensures) at
    c.int_in_range-place.ensures.exact in
    chosen_at_place _ c.args.u.now _ c.int_in_range-place.result c.offered_at.result drawn c.offered_at.ensures.exact
