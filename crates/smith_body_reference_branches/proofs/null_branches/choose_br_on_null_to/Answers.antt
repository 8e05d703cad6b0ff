use Rattle.smith_body_reference_branches.proofs.Common.{where_stands}
use Rattle.smith_body_reference_branches.proofs.NullLemmas.{kept_gives, kept_none, kept_there}
use Rattle.smith_body_reference_branches.proofs.null_branches.choose_br_on_null_to.Goals as goal

pub returns-in_default-clause-exact : goal.returns-in_default-clause-exact
returns-in_default-clause-exact c = kept_none (where_stands c.args.scope.now c.args.draft.now) c.args.to c.args.u.now _
    c.in_default.ensures.exact

pub returns-clause-exact : goal.returns-clause-exact
returns-clause-exact c = rw (c.in_ok-node.ensures.exact, c.nullable_to.ensures) (kept_there (where_stands c.args.scope.now c.args.draft.now)
    c.args.to c.args.u.now _ c.in-Some.label c.in-Some.ensures.exact)

pub returns-clause-offer : goal.returns-clause-offer
returns-clause-offer c = rw (c.in_ok-node.ensures.exact, c.nullable_to.ensures) (kept_gives (where_stands c.args.scope.now c.args.draft.now)
    c.args.draft.now.set.items c.args.to c.in-Some.label c.requires.wanted c.in-Some.ensures.offered)
