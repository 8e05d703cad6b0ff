use Rattle.smith_draw_types.proofs.Common.{arith, refl}
use Rattle.smith_draw_types.proofs.OfferedPlaceLemmas.{kinds_counted}
use Rattle.smith_draw_types.proofs.offers.count_abstract.Goals as goal

pub loop-kind-preserved : goal.loop-kind-preserved
loop-kind-preserved c =
    let counted = kinds_counted c.args.space.now.types c.args.shared c.args.kinds.now c.loop-kind.kind-index _ _ _ c.loop-kind-test.true
    refl c.count_of_kind.ensures in
    record {
      so_far = omega (arith, counted, c.loop-kind.invariant.so_far);
      fits = omega (arith, c.loop-kind.invariant.fits, c.count_of_kind.type_inv);
    }
