use Rattle.smith_draw_consts.proofs.Common.{All, All-push, ap, arith, List, slice_get, subst, sym, ◌∙◌}
use Rattle.smith_draw_consts.specs.KeptOffers.{IsEntry}
use Rattle.smith_draw_consts.specs.declared.kept_offers.KeptOffer.{KeptOffer}
use Rattle.smith_draw_consts.proofs.ClassLemmas.{get_front, get_last}
use Rattle.smith_draw_consts.proofs.kept_offers.find_or_begin.Goals as goal

pub returns-clause-kept : goal.returns-clause-kept
returns-clause-kept c = λ context items valid all.
    subst (λ (offers : List KeptOffer). All (IsEntry context items) offers) (sym c.in_ok-push.ensures.items)
    (All-push (IsEntry context items) c.args.kept.now.items c.new.result all (c.new.ensures.kept context items valid))

pub returns-clause-place : goal.returns-clause-place
returns-clause-place c = (
  c.new.result,
  ap (λ (all : List KeptOffer). slice_get all c.len-place.result) c.in_ok-push.ensures.items
      ∙ get_last c.args.kept.now.items c.new.result c.len-place.result (omega arith),
  (c.new.ensures.wanted, omega (arith, c.new.ensures.none)),
)

pub returns-clause-still : goal.returns-clause-still
returns-clause-still c = λ at other there. (
  there.0,
  ap (λ (all : List KeptOffer). slice_get all at) c.in_ok-push.ensures.items ∙ get_front c.args.kept.now.items _ at there.0
      there.1,
  there.2,
)
