use Rattle.smith_types.proofs.Common.{ap, arith, length, ◌<◌, ◌≡◌}
use Rattle.smith_types.specs.Types.{IsOrderly}
use Rattle.smith_types.specs.GroupedTypes.{HasDepth}
use Rattle.smith_types.proofs.SpaceLemmas.{depth_some, depth_alone}
use Rattle.smith_types.proofs.PlaceLemmas.{place_read, ancestor_decides, none_deeper_above}
use Rattle.smith_types.proofs.type_space.TypeSpace.reaches.Goals as goal

pub ancestor-found-requires : goal.ancestor-found-requires
ancestor-found-requires c =
    let from_inside : c.args.from < length c.self.inside.types.items = rw (ap (λ s. s.types) c.self.view_is) c.requires.lower in
    let to_inside : c.args.to < length c.self.inside.types.items = rw (ap (λ s. s.types) c.self.view_is) c.requires.upper in
    let lower = rw (ap (λ s. s.types) c.self.view_is) at (place_read _ _ c.args.from _ _ c.self.invariant.1 from_inside
    c.index-lower.ensures).depth in
    let upper = (place_read _ _ c.args.to _ _ c.self.invariant.1 to_inside c.index-upper.ensures).depth in record {
      stands = c.requires.lower;
      some = depth_some c.self.inside.types.items upper;
      within = λ own has.
          let same : own ≡ c.index-lower.result.now.depth = depth_alone c.args.self.now.types has lower in
          omega (arith, same, c.if-lower-upper.false);
    }

pub returns-then-lower-upper : goal.returns-then-lower-upper
returns-then-lower-upper c =
    let from_inside : c.args.from < length c.self.inside.types.items = rw (ap (λ s. s.types) c.self.view_is) c.requires.lower in
    let to_inside : c.args.to < length c.self.inside.types.items = rw (ap (λ s. s.types) c.self.view_is) c.requires.upper in
    rw (← ap (λ s. s.types) c.self.view_is)
    (none_deeper_above c.self.inside.types.items c.args.from c.args.to _ _ c.self.invariant.0.orderly
    (place_read _ _ c.args.from _ _ c.self.invariant.1 from_inside c.index-lower.ensures).depth
    (place_read _ _ c.args.to _ _ c.self.invariant.1 to_inside c.index-upper.ensures).depth
    c.if-lower-upper.true)

pub returns : goal.returns
returns c =
    let to_inside : c.args.to < length c.self.inside.types.items = rw (ap (λ s. s.types) c.self.view_is) c.requires.upper in
    let orderly : IsOrderly c.args.self.now.types = rw (ap (λ s. s.types) c.self.view_is) at c.self.invariant.0.orderly in
    let upper : HasDepth c.args.self.now.types c.args.to c.index-upper.result.now.depth = rw (ap (λ s. s.types) c.self.view_is) at
    (place_read _ _ c.args.to _ _ c.self.invariant.1 to_inside c.index-upper.ensures).depth in
    ancestor_decides c.args.self.now.types c.args.from c.args.to c.index-upper.result.now.depth c.ancestor-found.result orderly
    (record { depth_is = c.ancestor-found.ensures.deep; above = c.ancestor-found.ensures.above }) upper
