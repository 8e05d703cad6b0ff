use Rattle.smith_body_nodes.proofs.Common.{arith, length, ◌<◌}
use Rattle.smith_body_nodes.specs.Scopes.{bare}
use Rattle.smith_body_nodes.proofs.AboveLemmas.{local_above_none, local_above_some, read_above, read_valid}
use Rattle.smith_body_nodes.proofs.above.draw_local_above.Goals as goal

pub returns-in_default-clause-exact : goal.returns-in_default-clause-exact
returns-in_default-clause-exact c =
    rw c.top_above.ensures.exact (local_above_none (bare c.args.scope.now) c.args.to c.args.u.now _ c.in_default.ensures.exact)

pub returns-clause-exact : goal.returns-clause-exact
returns-clause-exact c =
    let inside : c.in-Some.index < length c.args.scope.now.locals.now = omega (arith, c.in-Some.ensures.below) in
    rw (c.reference_or.ensures, c.with_null.ensures) (local_above_some (bare c.args.scope.now) c.args.to c.args.u.now _ c.in-Some.index _
    c.in-Some.ensures.exact inside)

pub returns-clause-valid : goal.returns-clause-valid
returns-clause-valid c =
    let inside : c.in-Some.index < length c.args.scope.now.locals.now = omega (arith, c.in-Some.ensures.below) in
    rw (c.reference_or.ensures, c.with_null.ensures)
    (read_valid (bare c.args.scope.now) _ c.args.to (c.requires.scope.locals c.in-Some.index _ inside) c.requires.to)

pub returns-clause-above : goal.returns-clause-above
returns-clause-above c =
    let inside : c.in-Some.index < length c.args.scope.now.locals.now = omega (arith, c.in-Some.ensures.below) in
    rw (c.reference_or.ensures, c.with_null.ensures) (read_above (bare c.args.scope.now) c.args.to c.in-Some.index _
    c.requires.scope.orderly inside c.in-Some.ensures.offered)
