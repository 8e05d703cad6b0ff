use Rattle.smith_types.proofs.Common.{ap, arith, length, subst, suc, take, ℕ, ◌+◌, ◌-◌, ◌<◌, ◌∙◌, ◌≡◌, ◌≤◌}
use Rattle.std.proofs.Common.{◌/◌}
use Rattle.smith_types.specs.KindCounts.{is_in, count_where}
use Rattle.smith_types.proofs.KindCountLemmas.{search_begins, search_ends}
use Rattle.smith_types.proofs.PlaceLemmas.{count_read, count_up_to_fits}
use Rattle.smith_types.proofs.type_space.TypeSpace.index_in.Goals as goal

pub loop-low-init : goal.loop-low-init
loop-low-init c =
    let long : c.len-high.result ≡ length c.args.self.now.types = c.len-high.ensures ∙ c.self.inside.places.ok.0 ∙ c.self.invariant.1.long
    ∙ ap (λ s. length s.types) c.self.view_is in
    let (inside, most) = search_begins c.args.self.now.types c.args.set c.args.place c.len-high.result long c.requires in
    record { ordered = omega arith; inside = inside; least = omega arith; most = most }

pub loop-low-preserved-then-place-count : goal.loop-low-preserved-then-place-count
loop-low-preserved-then-place-count c =
    let middle : ℕ = c.loop-low.low + (c.loop-low.high - c.loop-low.low) / 2 in
    let last : c.loop-low.high < length c.args.self.now.types = c.loop-low.invariant.inside in
    let inside : middle < length c.args.self.now.types = omega (arith, last, c.loop-low-test.true) in
    let count = count_read _ _ _ middle c.count.result _ _ c.args.set (ap (λ s. s.types) c.self.view_is) c.self.invariant.1 inside
    c.index.ensures c.count.ensures in
    record {
      ordered = omega arith;
      inside = inside;
      least = c.loop-low.invariant.least;
      most = omega (arith, count, c.if-place-count.true);
    }

pub loop-low-preserved : goal.loop-low-preserved
loop-low-preserved c =
    let middle : ℕ = c.loop-low.low + (c.loop-low.high - c.loop-low.low) / 2 in
    let last : c.loop-low.high < length c.args.self.now.types = c.loop-low.invariant.inside in
    let inside : middle < length c.args.self.now.types = omega (arith, last, c.loop-low-test.true) in
    let count = count_read _ _ _ middle c.count.result _ _ c.args.set (ap (λ s. s.types) c.self.view_is) c.self.invariant.1 inside
    c.index.ensures c.count.ensures in
    let next : suc middle ≡ middle + 1 = omega arith in
    record {
      ordered = omega (arith, c.loop-low-test.true);
      inside = last;
      least = subst (λ n. count_where (is_in c.args.set) (take n c.args.self.now.types) ≤ c.args.place) next
          (omega (arith, count, c.if-place-count.false));
      most = c.loop-low.invariant.most;
    }

pub returns : goal.returns
returns c = search_ends c.args.self.now.types c.args.set c.args.place c.loop-low.low c.loop-low.high c.loop-low-test.false
    c.loop-low.invariant.ordered c.loop-low.invariant.inside c.loop-low.invariant.least c.loop-low.invariant.most

pub count-requires : goal.count-requires
count-requires c =
    let middle : ℕ = c.loop-low.low + (c.loop-low.high - c.loop-low.low) / 2 in
    let last : c.loop-low.high < length c.args.self.now.types = c.loop-low.invariant.inside in
    record {
      few = count_up_to_fits _ _ _ middle _ _ c.args.set (ap (λ s. s.types) c.self.view_is) c.self.invariant.1 c.self.invariant.0.few
          (omega (arith, last, c.loop-low-test.true)) c.index.ensures;
    }
