use Rattle.smith_draw_shape_imports.proofs.Common.{[], ap, drop, Import, sym, take, ◌++◌, ◌+◌, ◌∙◌, ◌∷◌, ◌≡◌}
use Rattle.std.proofs.lemmas.List.{drop_all, take_all, take_more}
use Rattle.smith_draw_shape_imports.proofs.GroupedImportsLoop.{grouped_first, group_alone, joined_none, joining_more}
use Rattle.smith_draw_shape_imports.proofs.TakenImportsLoop.{offered_next}
use Rattle.smith_draw_shape_imports.proofs.grouped_imports.put_in_groups.Goals as goal

pub loop-next-init : goal.loop-next-init
loop-next-init c =
    let drawn = c.in_ok-group.ensures.draws in
    record {
      so_far = rw c.new-made.ensures (grouped_first c.args.config.now c.args.first.now c.args.more.now c.in_ok-group.group c.args.u.now
          c.begin.new.u drawn.exact);
      groups = rw c.new-made.ensures (group_alone c.in_ok-group.group c.args.first.now c.in_ok-group.ensures.one
          c.in_ok-group.ensures.valid);
      left = drawn.left;
    }

pub loop-next-preserved : goal.loop-next-preserved
loop-next-preserved c =
    let i = c.loop-next.invariant in
    let more = c.args.more.now in
    let at = c.loop-next.next-index in
    let next = c.next-item.result in
    let rest = drop (at + 1) more in
    let cut = offered_next more at next _ c.loop-next-test.true c.next-item.is in
    let longer : take (at + 1) more ≡ take at more ++ next ∷ [] = take_more more at next c.loop-next-test.true
    ∙ ap (λ (x : Import). take at more ++ x ∷ []) (sym c.next-item.is) in
    record {
      so_far = joining_more next rest c.add_next.new.made c.in_ok-group-2.group c.add_next.new.u i.so_far cut
          (c.in_ok-group-2.ensures.exact rest);
      groups = rw longer (c.in_ok-group-2.ensures.groups (c.args.first.now ∷ take at more) i.groups);
      left = λ whole h. c.in_ok-group-2.ensures.left whole (i.left whole h);
    }

pub returns-clause-draws : goal.returns-clause-draws
returns-clause-draws c =
    let i = c.loop-next.invariant in
    let none : drop c.loop-next.next-index c.args.more.now ≡ [] = drop_all c.loop-next.next-index c.args.more.now c.loop-next-test.false in
    record { exact = rw c.in_ok-push.ensures.ok (joined_none i.so_far none); memory = tt; left = i.left }

pub returns-clause-groups : goal.returns-clause-groups
returns-clause-groups c =
    let every : take c.loop-next.next-index c.args.more.now ≡ c.args.more.now =
    take_all c.loop-next.next-index c.args.more.now c.loop-next-test.false in
    rw c.in_ok-push.ensures.ok (rw every at c.loop-next.invariant.groups)
