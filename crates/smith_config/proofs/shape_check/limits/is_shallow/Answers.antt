use Rattle.std.proofs.Common.{arith, ◌≡◌, ◌<◌, length, refl, below_more}
use Rattle.smith_config.proofs.DepthLemmas.{depth_alone, depth_stands}
use Rattle.smith_config.proofs.shape_check.limits.is_shallow.Goals as goal

pub loop-index-preserved : goal.loop-index-preserved
loop-index-preserved c = record {
  whole = c.loop-index.invariant.whole;
  before = below_more _ _ c.loop-index.invariant.before (λ depth deep. let same : depth ≡ c.depth.result = depth_alone _ deep
      c.depth.ensures in omega arith);
}

pub returns : goal.returns
returns c = (
  λ _. record {
    each = λ i depth deep.
        let inside : i < length c.args.space.now.types = depth_stands _ deep in
        let whole = c.loop-index.invariant.whole in
        c.loop-index.invariant.before i (omega arith) depth deep;
  },
  λ _. refl,
)
