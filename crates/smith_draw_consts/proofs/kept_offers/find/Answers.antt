use Rattle.smith_draw_consts.proofs.Common.{ap, arith, cases_lt, get_or, inl, inr, subst, sym, ℕ, ◌∙◌, ◌≡◌}
use Rattle.std.proofs.lemmas.Bool.{both_ways}
use Rattle.std.proofs.lemmas.List.{get_or_default}
use Rattle.smith_draw_consts.specs.KeptOffers.{IsFor}
use Rattle.smith_draw_consts.proofs.KeptOfferLemmas.{kept_there}
use Rattle.smith_draw_consts.proofs.kept_offers.find.Goals as goal

pub returns-then-is_for-clause-found : goal.returns-then-is_for-clause-found
returns-then-is_for-clause-found c = kept_there c.args.kept.now c.loop-place.place _ c.index-kept-place.result c.args.wanted c.args.visible
    c.loop-place-test.true c.index-kept-place.is (c.is_for.ensures.0 c.if-is_for.true)

pub loop-place-preserved : goal.loop-place-preserved
loop-place-preserved c = λ i d inside for. elim (cases_lt i c.loop-place.place) [
  | inl h ↦ c.loop-place.invariant i d h for
  | inr h ↦
      let kept = c.args.kept.now in
      let here : i ≡ c.loop-place.place = omega (arith, h, inside) in
      let same = ap (λ (n : ℕ). get_or kept n d) here ∙ get_or_default kept c.loop-place.place d _ c.loop-place-test.true
      ∙ sym c.index-kept-place.is in
      both_ways c.is_for.result c.if-is_for.false (c.is_for.ensures.1 (subst (IsFor c.args.wanted c.args.visible) same for))
]
