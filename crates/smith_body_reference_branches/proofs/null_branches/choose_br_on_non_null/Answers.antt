use Rattle.smith_body_reference_branches.proofs.Common.{None, refl, slice_get_read, Some, sym, where_stands}
use Rattle.smith_body_reference_branches.proofs.NullLemmas.{br_on_non_null_gives, br_on_non_null_none, br_on_non_null_there}
use Rattle.smith_body_reference_branches.proofs.null_branches.choose_br_on_non_null.Goals as goal

pub returns-in_default-clause-exact : goal.returns-in_default-clause-exact
returns-in_default-clause-exact c = br_on_non_null_none (where_stands c.args.scope.now c.args.draft.now) c.args.u.now _
    c.in_default.ensures.exact

pub returns-in_default-last_reference-clause-exact : goal.returns-in_default-last_reference-clause-exact
returns-in_default-last_reference-clause-exact c =
    let at = slice_get_read c.args.draft.now.labels.items _ c.in-Some.label c.index.result.now refl c.in-Some.ensures.below
    c.index.ensures in
    br_on_non_null_there (where_stands c.args.scope.now c.args.draft.now) c.args.u.now _ c.in-Some.label c.index.result.now None
    c.in-Some.ensures.exact at (sym (rw c.as_slice-taken.ensures at c.in_default-last_reference.ensures))

pub returns-clause-exact : goal.returns-clause-exact
returns-clause-exact c =
    let at = slice_get_read c.args.draft.now.labels.items _ c.in-Some.label c.index.result.now refl c.in-Some.ensures.below
    c.index.ensures in
    let last = sym (rw c.as_slice-taken.ensures at c.in-Some-last_reference.ensures) in
    rw (c.in_ok-node.ensures.exact, c.saturating_sub-others.ensures, c.as_slice-taken.ensures, c.nullable_to.ensures)
    (br_on_non_null_there (where_stands c.args.scope.now c.args.draft.now) c.args.u.now _ c.in-Some.label c.index.result.now
    (Some c.in-Some-last_reference.to) c.in-Some.ensures.exact at last)

pub returns-clause-offer : goal.returns-clause-offer
returns-clause-offer c =
    let last = sym (rw c.as_slice-taken.ensures at c.in-Some-last_reference.ensures) in
    rw (c.in_ok-node.ensures.exact, c.saturating_sub-others.ensures, c.as_slice-taken.ensures, c.nullable_to.ensures)
    (br_on_non_null_gives c.args.scope.now c.args.draft.now.labels.items c.args.draft.now.set.items c.in-Some.label c.index.result.now
    c.in-Some-last_reference.to c.requires.labels c.in-Some.ensures.below c.index.ensures last)
