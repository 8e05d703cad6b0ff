use Rattle.smith_draw_consts.proofs.Common.{All-set, ap, arith, is_val_below, set, subst, sym, ValType, ◌∙◌, ◌≡◌}
use Rattle.smith_draw_consts.specs.ConstScopes.{context_of}
use Rattle.smith_draw_consts.specs.KeptOffers.{AreAllRead, IsEntry, IsFor, IsWhole}
use Rattle.smith_draw_consts.specs.declared.kept_offers.KeptOffer.{KeptOffer}
use Rattle.smith_draw_consts.proofs.KeptOfferLemmas.{HasEntries, entry_replaced, for_there, kept_within, offer_there, whole_again}
use Rattle.smith_draw_consts.proofs.kept_offers.ManyItems.look_at.Goals as goal
use Rattle.smith_draw_consts.proofs.kept_offers.ManyItems.look_at.Goals.{In_ok-look-2, After-replace-offer}

-- the entry for the wider type is read
looked : (c : In_ok-look-2) → HasEntries (context_of c.args.scope.now) c.place_of.new.self.items
    (set c.place_of.new.self.kept.items c.in_ok-source.source c.look-2.new.self) c.in_ok-source.source c.in-Some.wider c.args.place
    c.args.wanted
looked c =
    let context = context_of c.args.scope.now in
    let kept = c.place_of.new.self.kept.items in
    let found : HasEntries context c.place_of.new.self.items kept c.in_ok-source.source c.in-Some.wider c.args.place c.args.wanted =
    record {
      all = (c.in_ok-source.ensures.kept context c.in-Some.ensures.0 c.requires.kept).entries;
      at_source = c.in_ok-source.ensures.place;
      at_place = c.in_ok-source.ensures.still c.args.place c.args.wanted c.requires.place;
    } in
    entry_replaced context c.place_of.new.self.items kept c.in_ok-source.source c.in-Some.wider c.args.place c.args.wanted
    c.in_ok-source.source _ c.index_mut-2.result.now c.look-2.new.self found c.index_mut-2.ensures.value
    (c.in_ok-look-2.ensures.wanted, omega (arith, c.in_ok-look-2.ensures.counted.globals_seen)) c.in_ok-look-2.ensures.kept

-- the entry for the wanted type is taken out
taken : (c : After-replace-offer) → HasEntries (context_of c.args.scope.now) c.place_of.new.self.items
    (set c.place_of.new.self.kept.items c.in_ok-source.source c.look-2.new.self) c.in_ok-source.source c.in-Some.wider c.args.place
    c.args.wanted
    → HasEntries (context_of c.args.scope.now) c.place_of.new.self.items
    (set (set c.place_of.new.self.kept.items c.in_ok-source.source c.look-2.new.self) c.args.place c.replace-offer.new.dest)
    c.in_ok-source.source c.in-Some.wider c.args.place c.args.wanted
taken c has =
    let context = context_of c.args.scope.now in
    let kept = set c.place_of.new.self.kept.items c.in_ok-source.source c.look-2.new.self in
    let old = for_there kept c.args.place _ c.index_mut-3.result.now c.args.wanted context.visible has.at_place
    c.index_mut-3.ensures.value in
    let new : c.replace-offer.new.dest.wanted ≡ c.args.wanted = ap (λ (each : KeptOffer). each.wanted) c.replace-offer.ensures.after
    ∙ c.new-none.ensures.wanted in
    let none = ap (λ (each : KeptOffer). each.globals.seen) c.replace-offer.ensures.after ∙ c.new-none.ensures.none in
    entry_replaced context c.place_of.new.self.items kept c.in_ok-source.source c.in-Some.wider c.args.place c.args.wanted c.args.place _
    c.index_mut-3.result.now c.replace-offer.new.dest has c.index_mut-3.ensures.value (new ∙ sym old.0, omega (arith, none))
    (subst (IsEntry context c.place_of.new.self.items) (sym c.replace-offer.ensures.after)
    (c.new-none.ensures.kept context c.place_of.new.self.items c.requires.upper))

pub look-requires-clause-visible : goal.look-requires-clause-visible
look-requires-clause-visible c =
    (for_there c.args.self.now.kept.items c.args.place _ c.index_mut.result.now c.args.wanted c.args.scope.now.visible c.requires.place
    c.index_mut.ensures.value).1

pub returns-in_default-clause-kept : goal.returns-in_default-clause-kept
returns-in_default-clause-kept c =
    record {
      items = c.requires.kept.items;
      entries = All-set (IsEntry (context_of c.args.scope.now) c.args.self.now.items)
          c.args.self.now.kept.items c.args.place c.look.new.self c.in_ok-look.ensures.kept c.requires.kept.entries;
    }

pub returns-in_default-clause-counted : goal.returns-in_default-clause-counted
returns-in_default-clause-counted c =
    let context = context_of c.args.scope.now in
    let for = for_there c.args.self.now.kept.items c.args.place _ c.index_mut.result.now c.args.wanted context.visible c.requires.place
    c.index_mut.ensures.value in
    whole_again context c.args.self.now.kept.items c.args.place c.args.wanted c.look.new.self
    (kept_within c.args.self.now.kept.items c.args.place c.args.wanted context.visible c.requires.place)
    (subst (λ (w : ValType). IsWhole context w c.look.new.self) for.0 c.in_ok-look.ensures.counted)

pub index_mut-requires-2 : goal.index_mut-requires-2
index_mut-requires-2 c =
    omega (
      arith,
      kept_within c.place_of.new.self.kept.items c.in_ok-source.source c.in-Some.wider c.args.scope.now.visible
          c.in_ok-source.ensures.place,
    )

pub look-requires-2-clause-read : goal.look-requires-2-clause-read
look-requires-2-clause-read c = subst (AreAllRead (context_of c.args.scope.now)) (sym c.in_ok-source.ensures.items) c.requires.read

pub look-requires-3-clause-read : goal.look-requires-3-clause-read
look-requires-3-clause-read c = subst (AreAllRead (context_of c.args.scope.now)) (sym c.in_ok-source.ensures.items) c.requires.read

pub look-requires-2-clause-kept : goal.look-requires-2-clause-kept
look-requires-2-clause-kept c =
    let context = context_of c.args.scope.now in
    offer_there context c.place_of.new.self.items c.place_of.new.self.kept.items c.in_ok-source.source _ c.index_mut-2.result.now
    c.in-Some.wider context.visible c.in_ok-source.ensures.place c.index_mut-2.ensures.value
    (c.in_ok-source.ensures.kept context c.in-Some.ensures.0 c.requires.kept).entries

pub look-requires-2-clause-visible : goal.look-requires-2-clause-visible
look-requires-2-clause-visible c =
    (for_there c.place_of.new.self.kept.items c.in_ok-source.source _ c.index_mut-2.result.now c.in-Some.wider c.args.scope.now.visible
    c.in_ok-source.ensures.place c.index_mut-2.ensures.value).1

pub index_mut-requires-3 : goal.index_mut-requires-3
index_mut-requires-3 c =
    let there = c.in_ok-source.ensures.still c.args.place c.args.wanted c.requires.place in
    omega (arith, kept_within c.place_of.new.self.kept.items c.args.place c.args.wanted c.args.scope.now.visible there)

pub index-requires : goal.index-requires
index-requires c = omega (
  arith,
  kept_within c.place_of.new.self.kept.items c.in_ok-source.source c.in-Some.wider c.args.scope.now.visible
      c.in_ok-source.ensures.place,
)

pub look-requires-3-clause-kept : goal.look-requires-3-clause-kept
look-requires-3-clause-kept c =
    let context = context_of c.args.scope.now in
    let has = looked (goal.at.look-requires-3-clause-kept c).In_ok-look-2 in
    offer_there context c.place_of.new.self.items (set c.place_of.new.self.kept.items c.in_ok-source.source c.look-2.new.self) c.args.place
    _ c.replace-offer.result c.args.wanted context.visible has.at_place (c.replace-offer.ensures.value ∙ c.index_mut-3.ensures.value)
    has.all

-- the entry that is taken out is for the wanted type
for_wanted : (c : After-replace-offer) → HasEntries (context_of c.args.scope.now) c.place_of.new.self.items
    (set c.place_of.new.self.kept.items c.in_ok-source.source c.look-2.new.self) c.in_ok-source.source c.in-Some.wider c.args.place
    c.args.wanted → IsFor c.args.wanted c.args.scope.now.visible c.replace-offer.result
for_wanted c had =
    for_there (set c.place_of.new.self.kept.items c.in_ok-source.source c.look-2.new.self) c.args.place _ c.replace-offer.result
    c.args.wanted c.args.scope.now.visible had.at_place (c.replace-offer.ensures.value ∙ c.index_mut-3.ensures.value)

pub look-requires-3-clause-visible : goal.look-requires-3-clause-visible
look-requires-3-clause-visible c =
    let at = goal.at.look-requires-3-clause-visible c in
    (for_wanted at.After-replace-offer (looked at.In_ok-look-2)).1

pub look-requires-3-clause-wider : goal.look-requires-3-clause-wider
look-requires-3-clause-wider c =
    let at = goal.at.look-requires-3-clause-wider c in
    let has = taken at.After-replace-offer (looked at.In_ok-look-2) in
    let context = context_of c.args.scope.now in
    let kept = set (set c.place_of.new.self.kept.items c.in_ok-source.source c.look-2.new.self) c.args.place c.replace-offer.new.dest in
    let wanted = (for_wanted at.After-replace-offer (looked at.In_ok-look-2)).0 in
    let wider = (for_there kept c.in_ok-source.source _ c.index.result.now c.in-Some.wider context.visible has.at_source c.index.ensures).0
    in
    record {
      kept = (offer_there context c.place_of.new.self.items kept c.in_ok-source.source _ c.index.result.now c.in-Some.wider context.visible
          has.at_source c.index.ensures has.all).kept;
      wider = ap (λ (w : ValType). is_val_below context.types w c.index.result.now.wanted) wanted
          ∙ ap (λ (w : ValType). is_val_below context.types c.args.wanted w) wider ∙ c.in-Some.ensures.1;
    }

pub index_mut-requires-4 : goal.index_mut-requires-4
index_mut-requires-4 c =
    let there = c.in_ok-source.ensures.still c.args.place c.args.wanted c.requires.place in
    omega (arith, kept_within c.place_of.new.self.kept.items c.args.place c.args.wanted c.args.scope.now.visible there)

pub returns-clause-kept : goal.returns-clause-kept
returns-clause-kept c =
    let at = goal.at.returns-clause-kept c in
    let has = taken at.After-replace-offer (looked at.In_ok-look-2) in
    record {
      items = (c.in_ok-source.ensures.kept (context_of c.args.scope.now) c.in-Some.ensures.0 c.requires.kept).items;
      entries = All-set (IsEntry (context_of c.args.scope.now) c.place_of.new.self.items)
          (set (set c.place_of.new.self.kept.items c.in_ok-source.source c.look-2.new.self) c.args.place c.replace-offer.new.dest)
          c.args.place c.look-3.new.self c.in_ok-look-3.ensures.kept has.all;
    }

pub returns-clause-counted : goal.returns-clause-counted
returns-clause-counted c =
    let at = goal.at.returns-clause-counted c in
    let has = taken at.After-replace-offer (looked at.In_ok-look-2) in
    let context = context_of c.args.scope.now in
    let kept = set (set c.place_of.new.self.kept.items c.in_ok-source.source c.look-2.new.self) c.args.place c.replace-offer.new.dest in
    whole_again context kept c.args.place c.args.wanted c.look-3.new.self (kept_within kept c.args.place c.args.wanted context.visible
    has.at_place)
    (subst (λ (w : ValType). IsWhole context w c.look-3.new.self) (for_wanted at.After-replace-offer (looked at.In_ok-look-2)).0
    c.in_ok-look-3.ensures.counted)
