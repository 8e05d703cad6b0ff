use Rattle.smith_body_reference_branches.proofs.Common.{arith, bare, length, sym, ◌<◌, ◌∙◌}
use Rattle.smith_body_reference_branches.proofs.CastBranchLemmas.{itself_below, strict_below, strict_none, strict_off, strict_some}
use Rattle.smith_body_reference_branches.proofs.CastBranchLemmas.{strict_valid}
use Rattle.smith_body_reference_branches.proofs.cast_branches.draw_strictly_below.Goals as goal

pub returns-then-not-names_types-clause-exact : goal.returns-then-not-names_types-clause-exact
returns-then-not-names_types-clause-exact c = strict_off (bare c.args.scope.now) c.args.above c.args.u.now
    (sym c.names_types.ensures ∙ c.if-not-names_types.true)

pub returns-then-not-names_types-clause-below : goal.returns-then-not-names_types-clause-below
returns-then-not-names_types-clause-below c = itself_below (bare c.args.scope.now).types c.args.above

pub returns-in_default-clause-exact : goal.returns-in_default-clause-exact
returns-in_default-clause-exact c = strict_none (bare c.args.scope.now) c.args.above c.args.u.now _
    (sym c.names_types.ensures ∙ c.if-not-names_types.false) c.in_default.ensures.exact

pub returns-in_default-clause-below : goal.returns-in_default-clause-below
returns-in_default-clause-below c = itself_below (bare c.args.scope.now).types c.args.above

pub returns-clause-exact : goal.returns-clause-exact
returns-clause-exact c =
    rw c.reference_as.ensures (strict_some (bare c.args.scope.now) c.args.above c.args.u.now _ c.in-Some.index
    (sym c.names_types.ensures ∙ c.if-not-names_types.false) c.in-Some.ensures.exact)

pub returns-clause-valid : goal.returns-clause-valid
returns-clause-valid c =
    let inside : c.in-Some.index < length c.args.scope.now.types.now.types = omega (arith, c.in-Some.ensures.below) in
    rw c.reference_as.ensures (strict_valid (bare c.args.scope.now) c.args.above c.in-Some.index
    (sym c.names_types.ensures ∙ c.if-not-names_types.false) inside c.requires.above)

pub returns-clause-below : goal.returns-clause-below
returns-clause-below c =
    rw c.reference_as.ensures (strict_below (bare c.args.scope.now) c.args.above c.in-Some.index c.requires.scope.orderly
    c.in-Some.ensures.offered)
