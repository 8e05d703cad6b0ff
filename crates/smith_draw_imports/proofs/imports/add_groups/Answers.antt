use Rattle.smith_draw_imports.proofs.Common.{arith, piece_short}
use Rattle.smith_bytes.specs.declared.error.Count.TheVariants as counts
use Rattle.smith_draw_imports.proofs.ImportGroupsLoop.{groups_stop, groups_full, groups_end, groups_more}
use Rattle.smith_draw_imports.proofs.imports.add_groups.Goals as goal

pub returns-then-not-goes_on-clause-exact : goal.returns-then-not-goes_on-clause-exact
returns-then-not-goes_on-clause-exact c = groups_stop c.loop-imported.invariant.grouping c.loop-imported-test.true c.goes_on.ensures.exact
    c.if-not-goes_on.true

pub returns-then-not-branch-clause-exact : goal.returns-then-not-branch-clause-exact
returns-then-not-branch-clause-exact c = groups_end c.loop-imported.invariant.grouping c.loop-imported-test.true c.goes_on.ensures.exact
    c.if-not-goes_on.false c.in_ok-add_group.ensures.exact c.if-not-branch.true

pub loop-imported-smaller : goal.loop-imported-smaller
loop-imported-smaller c =
    let short = piece_short c.goes_on.ensures.left in
    let advances = c.in_ok-add_group.ensures.advances c.if-not-branch.false in
    let most = c.in_ok-add_group.ensures.so_far.fit.most in
    let count = c.in_ok-add_group.ensures.so_far.counts.count in
    omega (arith, short, advances, most, count)

pub loop-imported-preserved : goal.loop-imported-preserved
loop-imported-preserved c =
    let so_far = c.in_ok-add_group.ensures.so_far in
    record {
      kept = c.in_ok-add_group.ensures.kept;
      so_far = so_far;
      grouping = groups_more c.loop-imported.invariant.grouping c.loop-imported-test.true c.goes_on.ensures.exact c.if-not-goes_on.false
          c.in_ok-add_group.ensures.exact c.if-not-branch.false so_far.counts.count (omega (arith, so_far.fit.most, so_far.counts.count))
          (c.in_ok-add_group.ensures.advances c.if-not-branch.false) c.goes_on.ensures.left c.in_ok-add_group.ensures.left;
    }

pub returns-clause-exact : goal.returns-clause-exact
returns-clause-exact c = groups_full c.loop-imported.invariant.grouping c.loop-imported-test.false

pub returns-clause-least : goal.returns-clause-least
returns-clause-least c =
    λ few. absurd (omega (arith, c.requires.may.passes.ordered counts.Imports c.requires.may.free, c.loop-imported-test.false))
