use Rattle.smith_draw_consts.proofs.Common.{ap, get_or_from_slice_get, sym, ◌∙◌}
use Rattle.smith_draw_consts.specs.declared.kept_offers.KeptOffer.{KeptOffer}
use Rattle.smith_draw_consts.specs.ConstScopes.{context_of}
use Rattle.smith_draw_consts.specs.KeptOffers.{AreManyKept}
use Rattle.smith_draw_consts.proofs.ClassLemmas.{entries_read}
use Rattle.smith_draw_consts.proofs.KeptOfferLemmas.{offer_there, whole_for}
use Rattle.smith_draw_consts.proofs.kept_offers.ManyItems.look.Goals as goal
use Rattle.smith_draw_consts.proofs.kept_offers.ManyItems.look.Goals.{In_ok-read}

read : (c : In_ok-read) → AreManyKept (context_of c.args.scope.now) (record c.place_of.new.self { items = c.read.new.self })
read c =
    let context = context_of c.args.scope.now in
    record {
      items = c.in_ok-read.ensures.read.read;
      entries = entries_read context c.place_of.new.self.items c.read.new.self c.place_of.new.self.kept.items c.in_ok-read.ensures.globals
          c.in_ok-read.ensures.funcs (c.in_ok-place.ensures.kept context c.requires.upper c.requires.kept).entries;
    }

pub read-requires-clause-read : goal.read-requires-clause-read
read-requires-clause-read c = (c.in_ok-place.ensures.kept (context_of c.args.scope.now) c.requires.upper c.requires.kept).items

pub returns-then-is_current-clause-kept : goal.returns-then-is_current-clause-kept
returns-then-is_current-clause-kept c = read (goal.at.returns-then-is_current-clause-kept c).In_ok-read

pub returns-then-is_current-clause-counted : goal.returns-then-is_current-clause-counted
returns-then-is_current-clause-counted c =
    let context = context_of c.args.scope.now in
    let kept = c.place_of.new.self.kept.items in
    let there = c.in_ok-place.ensures.place in
    let one = there.0 in
    let is = sym (get_or_from_slice_get kept c.in_ok-place.place one one there.1) in
    let current = c.is_current.ensures.0 c.if-is_current.true in
    let same = c.index.ensures ∙ get_or_from_slice_get kept c.in_ok-place.place one _ there.1 in (
      one,
      there.1,
      whole_for context c.args.wanted one (offer_there context c.read.new.self kept c.in_ok-place.place one one c.args.wanted
          context.visible there is (read (goal.at.returns-then-is_current-clause-counted c).In_ok-read).entries).kept there.2.0
          (ap (λ (each : KeptOffer). each.globals.seen) (sym same) ∙ current.0) (ap (λ (each : KeptOffer). each.funcs.seen) (sym same)
          ∙ current.1),
    )

pub look_at-requires-clause-kept : goal.look_at-requires-clause-kept
look_at-requires-clause-kept c = read (goal.at.look_at-requires-clause-kept c).In_ok-read
