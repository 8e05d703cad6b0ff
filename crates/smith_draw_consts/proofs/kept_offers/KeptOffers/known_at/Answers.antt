use Rattle.smith_draw_consts.proofs.Common.{arith, slice_get_within}
use Rattle.smith_draw_consts.proofs.KeptOfferLemmas.{whole_there}
use Rattle.smith_draw_consts.proofs.kept_offers.KeptOffers.known_at.Goals as goal

pub index-requires : goal.index-requires
index-requires c =
    let has = c.requires.2 in
    let there = rw c.in-Some.is at has.counted in
    omega (arith, slice_get_within c.in-Some.many.kept.items c.args.place there.0 there.1)

pub returns-in-Some : goal.returns-in-Some
returns-in-Some c = λ context wanted has. (
  rw c.in-Some.is at has.many,
  whole_there context c.in-Some.many.kept.items c.args.place wanted _
      c.index.result.now (rw c.in-Some.is at has.counted) c.index.ensures,
)

pub returns-in-None : goal.returns-in-None
returns-in-None c = λ context wanted has. has.few c.in-None.is
