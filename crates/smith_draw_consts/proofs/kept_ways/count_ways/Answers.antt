use Rattle.smith_draw_consts.proofs.Common.{ap, arith, length, List, subst, SubType, sym, ℕ, ◌+◌, ◌<◌, ◌∙◌, ◌≡◌}
use Rattle.smith_draw_consts.specs.ConstOffers.{ways_by}
use Rattle.smith_draw_consts.specs.ConstScopes.{context_of}
use Rattle.smith_draw_consts.specs.KeptOffers.{offered_before}
use Rattle.smith_draw_consts.proofs.KeptOfferLemmas.{offered_more}
use Rattle.smith_draw_consts.proofs.kept_ways.count_ways.Goals as goal

pub loop-index-preserved : goal.loop-index-preserved
loop-index-preserved c =
    let context = context_of c.args.scope.now in
    let offer = ways_by context c.args.wanted c.args.fuel c.args.arrays in
    let types : List SubType = c.types-types.result.now in
    let index : ℕ = c.loop-index.index in
    let same : types ≡ context.types = c.types-types.ensures.value in
    let inside : index < length types = omega (arith, c.loop-index-test.true, c.requires.there, ap length same) in
    let stepped : offered_before offer types (index + 1) ≡ offered_before offer types index + c.count_ways_by-count.result =
    offered_more offer types index _ inside ∙ ap (λ (n : ℕ). offered_before offer types index + n)
    (sym c.count_ways_by-count.ensures.count) in
    let more = subst (λ (xs : List SubType). offered_before offer xs (index + 1) ≡ offered_before offer xs index +
    c.count_ways_by-count.result) same stepped in
    record {
      counted = omega (arith, more, c.loop-index.invariant.counted);
      few = omega (arith, c.loop-index.invariant.few, c.count_ways_by-count.ensures.few);
    }
