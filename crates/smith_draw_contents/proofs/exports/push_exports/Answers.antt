use Rattle.smith_draw_contents.proofs.Common.{arith, refl, spaces_in}
use Rattle.smith_draw_contents.proofs.ExportsLoop.{none_exported, export_stop, export_end, export_full, export_more}
use Rattle.smith_draw_contents.proofs.exports.push_exports.Goals as goal

pub loop-made-init : goal.loop-made-init
loop-made-init c = rw c.new-exports.ensures (none_exported c.args.config.now c.args.types.now.types (spaces_in c.args.spaces.now)
    c.args.imports_size c.args.u.now c.requires.may.within c.requires.none)

pub returns-then-not-goes_on-clause-exact : goal.returns-then-not-goes_on-clause-exact
returns-then-not-goes_on-clause-exact c = export_stop c.loop-made.invariant c.loop-made-test.true c.goes_on.ensures.exact
    c.if-not-goes_on.true

pub returns-clause-exact : goal.returns-clause-exact
returns-clause-exact c = export_full c.loop-made.invariant c.loop-made-test.false

pub returns-then-not-has_candidates-clause-exact : goal.returns-then-not-has_candidates-clause-exact
returns-then-not-has_candidates-clause-exact c =
    export_end c.loop-made.invariant c.loop-made-test.true c.goes_on.ensures.exact c.if-not-goes_on.false refl c.has_candidates.ensures
    c.if-not-has_candidates.true

pub loop-made-preserved : goal.loop-made-preserved
loop-made-preserved c =
    let now = c.loop-made.invariant in
    let drawn = c.in_ok-one.ensures in
    export_more now c.loop-made-test.true c.goes_on.ensures.exact c.if-not-goes_on.false refl c.has_candidates.ensures
    c.if-not-has_candidates.false
    (drawn.exact c.loop-made.exports now.names_are (omega (arith, now.count_is))) (drawn.fresh c.loop-made.exports now.names_are)
    (drawn.names c.loop-made.exports now.names_are) drawn.candidate
    c.in_ok-push.ensures.ok (rw c.item_size.ensures.exact refl) c.goes_on.ensures.left drawn.left
