use Rattle.smith_draw_shape_imports.proofs.Common.{[], drop, ◌+◌, ◌≡◌}
use Rattle.std.proofs.lemmas.List.{drop_all}
use Rattle.smith_draw_shape_imports.proofs.TakenImportsLoop.{offered_next, picked_none, picked_not, picked_one}
use Rattle.smith_draw_shape_imports.proofs.taken_imports.take_imports.Goals as goal

pub loop-one-preserved-then-not-arbitrary : goal.loop-one-preserved-then-not-arbitrary
loop-one-preserved-then-not-arbitrary c =
    let i = c.loop-one.invariant in
    let next = offered_next c.args.offered.now c.loop-one.one-index c.one-item.result _ c.loop-one-test.true c.one-item.is in
    record {
      counts = i.counts;
      so_far = picked_not c.one-item.result (drop (c.loop-one.one-index + 1) c.args.offered.now) i.so_far next c.arbitrary.ensures.exact
          c.if-not-arbitrary.true;
      left = λ whole h. c.arbitrary.ensures.left whole (i.left whole h);
    }

pub loop-one-preserved : goal.loop-one-preserved
loop-one-preserved c =
    let i = c.loop-one.invariant in
    let next = offered_next c.args.offered.now c.loop-one.one-index c.one-item.result _ c.loop-one-test.true c.one-item.is in
    record {
      counts = c.in_ok-take.ensures.counts;
      so_far = picked_one c.one-item.result (drop (c.loop-one.one-index + 1) c.args.offered.now) c.take.new.taken i.so_far next
          c.arbitrary.ensures.exact c.if-not-arbitrary.false c.in_ok-take.ensures.taken;
      left = λ whole h. c.arbitrary.ensures.left whole (i.left whole h);
    }

pub returns-clause-draws : goal.returns-clause-draws
returns-clause-draws c =
    let i = c.loop-one.invariant in
    let none : drop c.loop-one.one-index c.args.offered.now ≡ [] = drop_all c.loop-one.one-index c.args.offered.now c.loop-one-test.false in
    record { exact = picked_none i.so_far none; memory = tt; left = i.left }
