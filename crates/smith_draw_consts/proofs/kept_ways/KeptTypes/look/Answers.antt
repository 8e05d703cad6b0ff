use Rattle.smith_draw_consts.proofs.Common.{All-set, arith, subst, sym, ValType}
use Rattle.smith_draw_consts.specs.ConstScopes.{context_of}
use Rattle.smith_draw_consts.specs.KeptOffers.{AreWaysWhole, IsKeptWays}
use Rattle.smith_draw_consts.proofs.KeptWayLemmas.{set_there, ways_for, ways_within}
use Rattle.smith_draw_consts.proofs.kept_ways.KeptTypes.look.Goals as goal

pub index_mut-requires : goal.index_mut-requires
index_mut-requires c =
    omega (arith, ways_within c.place_of.new.self.entries.items c.in_ok-place.place c.args.wanted c.in_ok-place.ensures.place)

pub look-requires-clause-kept : goal.look-requires-clause-kept
look-requires-clause-kept c =
    let context = context_of c.args.scope.now in
    let all = c.in_ok-place.ensures.kept context c.requires.upper c.requires.kept in
    let inside = ways_within c.place_of.new.self.entries.items c.in_ok-place.place c.args.wanted c.in_ok-place.ensures.place in
    subst (IsKeptWays context) (sym c.index_mut.ensures.value) (all c.in_ok-place.place _ inside)

pub returns-clause-kept : goal.returns-clause-kept
returns-clause-kept c =
    let context = context_of c.args.scope.now in
    All-set (IsKeptWays context) c.place_of.new.self.entries.items c.in_ok-place.place c.look.new.self c.in_ok-look.ensures.kept
    (c.in_ok-place.ensures.kept context c.requires.upper c.requires.kept)

pub returns-clause-counted : goal.returns-clause-counted
returns-clause-counted c =
    let kept = c.place_of.new.self.entries.items in
    let for = ways_for kept c.in_ok-place.place _ c.index_mut.result.now c.args.wanted c.in_ok-place.ensures.place
    c.index_mut.ensures.value in (
      c.look.new.self,
      set_there kept c.in_ok-place.place c.look.new.self (ways_within kept c.in_ok-place.place c.args.wanted c.in_ok-place.ensures.place),
      subst (λ (w : ValType). AreWaysWhole (context_of c.args.scope.now) w c.args.fuel c.look.new.self) for c.in_ok-look.ensures.counted,
    )
