use Rattle.smith_draw_contents.proofs.Common.{All-push, arith, ElementSegment, refl, refused_with, seen_by, true}
use Rattle.smith_bytes.specs.declared.error.Count.TheVariants as counts
use Rattle.smith_draw_contents.specs.DrawnElements.{IsElementFit}
use Rattle.smith_draw_contents.proofs.ElementsLoop.{segments_go, segments_stop, segments_full, segments_refused}
use Rattle.smith_draw_contents.proofs.elements.draw_segments.Goals as goal

pub returns-then-not-goes_on-clause-exact : goal.returns-then-not-goes_on-clause-exact
returns-then-not-goes_on-clause-exact c = segments_stop c.loop-made.invariant.growing c.loop-made-test.true c.goes_on.ensures.exact
    c.if-not-goes_on.true

pub returns-in_err-segment-clause-exact : goal.returns-in_err-segment-clause-exact
returns-in_err-segment-clause-exact c =
    refused_with {X = ElementSegment} (λ segment. (segment, c.draw_segment.new.u)) _ c.in_err-segment.field-0.0 _ _ c.from_residual.result
    c.in_err-segment.ensures.exact
    (λ drawn. segments_refused c.loop-made.invariant.growing c.loop-made-test.true c.goes_on.ensures.exact c.if-not-goes_on.false drawn)
    c.from_residual.ensures.1

pub overflow_add-total : goal.overflow_add-total
overflow_add-total c = omega (arith, c.in_ok-segment.ensures.within, c.item_count-total.ensures, c.requires.may.passes.few counts.Elements)

pub loop-made-preserved : goal.loop-made-preserved
loop-made-preserved c =
    let counted = c.item_count-total.ensures in
    let longer = c.in_ok-push.ensures.ok in
    record {
      growing = segments_go c.loop-made.invariant.growing c.loop-made-test.true c.goes_on.ensures.exact c.if-not-goes_on.false
          c.in_ok-segment.ensures.exact longer
          (rw counted refl) (rw counted c.in_ok-segment.ensures.within) c.goes_on.ensures.left c.draw_segment.ensures.left;
      fit = rw longer (All-push (IsElementFit c.args.config.now (seen_by c.args.config.now c.args.spaces.now true)
          c.args.spaces.now.entities.tables.now) c.loop-made.segments _ c.loop-made.invariant.fit c.in_ok-segment.ensures.fit);
    }

pub returns-clause-exact : goal.returns-clause-exact
returns-clause-exact c = segments_full c.loop-made.invariant.growing c.loop-made-test.false
