use Rattle.smith_types.proofs.Common.{arith, get_or, subst, ◌≡◌, ◌≤◌}
use Rattle.smith_types.specs.GroupedTypes.{HasDepth}
use Rattle.smith_types.specs.Subtyping.{itself}
use Rattle.smith_types.proofs.GrowthLemmas.{IsBelow-trans}
use Rattle.smith_types.proofs.SpaceLemmas.{depth_alone}
use Rattle.smith_types.proofs.PlaceLemmas.{no_place, place_at}
use Rattle.smith_types.proofs.place.find_ancestor.Goals as goal

pub loop-at-init : goal.loop-at-init
loop-at-init c = record { inside = c.requires.inside; below = itself; within = c.requires.within }

pub climb-at-requires-clause-deeper : goal.climb-at-requires-clause-deeper
climb-at-requires-clause-deeper c = λ own has.
    let place = place_at c.args.types.now c.args.places.now c.loop-at.at c.requires.places c.loop-at.invariant.inside in
    let same : own ≡ (get_or c.args.places.now c.loop-at.at no_place).depth = depth_alone c.args.types.now has place.depth in
    omega (arith, same, c.loop-at-test.true)

pub loop-at-preserved : goal.loop-at-preserved
loop-at-preserved c =
    let step = c.climb-at.ensures in record {
      inside = omega (arith, step.before, c.loop-at.invariant.inside);
      below = IsBelow-trans c.args.types.now c.loop-at.invariant.below step.above;
      within = step.deep;
    }

pub returns : goal.returns
returns c =
    let place = place_at c.args.types.now c.args.places.now c.loop-at.at c.requires.places c.loop-at.invariant.inside in
    let least : c.args.depth ≤ (get_or c.args.places.now c.loop-at.at no_place).depth = c.loop-at.invariant.within _ place.depth in
    let same : (get_or c.args.places.now c.loop-at.at no_place).depth ≡ c.args.depth = omega (arith, least, c.loop-at-test.false) in
    record {
      depth_is = subst (λ n. HasDepth c.args.types.now c.loop-at.at n) same place.depth;
      above = c.loop-at.invariant.below;
    }
