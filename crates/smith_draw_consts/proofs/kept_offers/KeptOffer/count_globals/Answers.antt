use Rattle.smith_draw_consts.proofs.Common.{arith, Bool, List, subst, sym}
use Rattle.smith_draw_consts.specs.ConstOffers.{global_offers}
use Rattle.smith_draw_consts.specs.KeptOffers.{IsTally, offered_before}
use Rattle.smith_draw_consts.proofs.ClassLemmas.{tally_globals}
use Rattle.smith_draw_consts.proofs.WiderOfferLemmas.{excluded}
use Rattle.smith_draw_consts.proofs.kept_offers.KeptOffer.count_globals.Goals as goal

pub returns-then-not-may_offer : goal.returns-then-not-may_offer
returns-then-not-may_offer c = λ context orderly read entry wider.
    let none = excluded context c.args.self.now.wanted c.args.first c.args.end c.args.wider orderly wider c.requires.one_block.0
    (omega (arith, c.requires.read, read.globals.seen)) (λ before counted rising. c.may_offer.ensures.none before counted rising
    c.if-not-may_offer.true) in
    omega (arith, none)

pub returns : goal.returns
returns c = λ context orderly read entry wider.
    let before = offered_before (global_offers context c.args.self.now.wanted) context.globals in
    c.count.ensures before (subst (λ (flags : List Bool). IsTally before c.args.items.now.globals.of flags) (sym c.as_slice-flags.ensures)
    (tally_globals context c.args.self.now.wanted c.args.items.now.globals c.args.self.now.global_flags read.globals entry.globals))
