use Rattle.smith_draw_contents.proofs.Common.{arith, every_item, refl, spaces_in}
use Rattle.smith_draw_contents.specs.AllExports.{everything_at}
use Rattle.smith_draw_contents.proofs.AllExportsLemmas.{every_item_stands}
use Rattle.smith_draw_contents.proofs.AllExportsLoop.{none_exporting, exporting_full, exported_all, exporting_refused, exporting_more}
use Rattle.smith_draw_contents.proofs.all_exports.push_exports.Goals as goal

pub loop-place-init : goal.loop-place-init
loop-place-init c =
    let spaces = spaces_in c.args.spaces.now in
    rw c.in_ok-exports.ensures.ok (none_exporting c.args.config.now c.args.types.now.types spaces c.args.imports_size (every_item spaces)
    c.args.u.now c.requires.within c.new-names.ensures.empty)

pub overflow_add-type_size : goal.overflow_add-type_size
overflow_add-type_size c = omega (arith, c.loop-place.invariant.fit.within, c.if-size-left.false)

pub returns-then-size-left-clause-exact : goal.returns-then-size-left-clause-exact
unfolding everything_at
returns-then-size-left-clause-exact c =
    let now = c.loop-place.invariant in
    exporting_refused now c.item_at-kind.ensures (c.in_ok-name.ensures.exact c.loop-place.exports now.names_are
    (omega (arith, now.count_is))) (omega (arith, c.if-size-left.true, c.item_size-size.ensures.exact))

pub loop-place-preserved : goal.loop-place-preserved
loop-place-preserved c =
    let now = c.loop-place.invariant in
    let named = c.in_ok-name.ensures in
    exporting_more now c.item_at-kind.ensures (named.exact c.loop-place.exports now.names_are (omega (arith, now.count_is)))
    (omega (arith, c.if-size-left.false, c.item_size-size.ensures.exact)) (named.fresh c.loop-place.exports now.names_are)
    (named.names c.loop-place.exports _ now.names_are refl) (every_item_stands (spaces_in c.args.spaces.now)) c.in_ok-push.ensures.ok
    (rw c.item_size-size.ensures.exact refl) named.left

pub returns-clause-exact : goal.returns-clause-exact
unfolding everything_at
returns-clause-exact c = exporting_full c.loop-place.invariant (omega (arith, c.loop-place-test.false, c.count_items-count.ensures))

pub returns-clause-everything : goal.returns-clause-everything
returns-clause-everything c = exported_all c.loop-place.invariant (omega (arith, c.loop-place-test.false, c.count_items-count.ensures))
