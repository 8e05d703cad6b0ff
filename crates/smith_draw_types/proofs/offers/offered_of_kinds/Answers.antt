use Rattle.smith_draw_types.proofs.Common.{arith, refl}
use Rattle.smith_draw_types.proofs.OfferedPlaceLemmas.{kinds_counted, kinds_here, kinds_later}
use Rattle.smith_draw_types.proofs.offers.offered_of_kinds.Goals as goal

pub returns-then-left-count : goal.returns-then-left-count
returns-then-left-count c =
    c.loop-kind.invariant.same _ (kinds_here c.args.space.now.types c.args.shared c.args.kinds.now c.loop-kind.kind-index _ _ _ _
    c.loop-kind-test.true refl c.index_of_kind.ensures)

pub loop-kind-preserved : goal.loop-kind-preserved
loop-kind-preserved c =
    let counted = kinds_counted c.args.space.now.types c.args.shared c.args.kinds.now c.loop-kind.kind-index _ _ _ c.loop-kind-test.true
    refl c.count_of_kind-count.ensures in
    record {
      inside = omega (arith, counted, c.loop-kind.invariant.inside, c.if-left-count.false);
      same = λ x at. c.loop-kind.invariant.same x (kinds_later c.args.space.now.types c.args.shared c.args.kinds.now c.loop-kind.kind-index
          _ _ _ _ x c.loop-kind-test.true refl c.count_of_kind-count.ensures c.if-left-count.false at);
    }
