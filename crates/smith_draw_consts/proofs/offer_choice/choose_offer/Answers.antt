use Rattle.smith_draw_consts.specs.ConstScopes.{context_of}
use Rattle.smith_draw_consts.specs.KeptOffers.{HasReadAll}
use Rattle.smith_draw_consts.proofs.KeptWayLemmas.{read_still}
use Rattle.smith_draw_consts.proofs.offer_choice.choose_offer.Goals as goal
use Rattle.smith_draw_consts.proofs.offer_choice.choose_offer.Goals.{In_ok-types}

-- the globals and functions that have been read are known
known : (c : In_ok-types) → HasReadAll (context_of c.args.scope.now) c.args.wanted c.in_ok-place.place c.look_at_types.new.self
known c = read_still (context_of c.args.scope.now) c.args.wanted c.in_ok-place.place c.look.new.self c.look_at_types.new.self
    c.in_ok-types.ensures.few c.in_ok-types.ensures.many c.in_ok-place.ensures.all

pub known_at-requires : goal.known_at-requires
known_at-requires c = (context_of c.args.scope.now, c.args.wanted, known (goal.at.known_at-requires c).In_ok-types)

pub ways_at-requires : goal.ways_at-requires
ways_at-requires c = (context_of c.args.scope.now, c.args.wanted, c.args.fuel, c.in_ok-types.ensures.counted)

pub choose_among-requires-clause-known : goal.choose_among-requires-clause-known
choose_among-requires-clause-known c = c.known_at.ensures (context_of c.args.scope.now) c.args.wanted
    (known (goal.at.choose_among-requires-clause-known c).In_ok-types)

pub choose_among-requires-clause-ways : goal.choose_among-requires-clause-ways
choose_among-requires-clause-ways c = c.ways_at.ensures (context_of c.args.scope.now) c.args.wanted c.args.fuel
    c.in_ok-types.ensures.counted
