use Rattle.smith_body_reference_branches.proofs.Common.{bare, None, one_valid, Ref, refl, slice_get_read, Some, sym, where_stands}
use Rattle.smith_body_reference_branches.proofs.CastBranchLemmas.{kept_none, kept_some, kept_cast_gives}
use Rattle.smith_body_reference_branches.proofs.cast_branches.choose_cast_to.Goals as goal

pub choose_target-requires-clause-taken : goal.choose_target-requires-clause-taken
choose_target-requires-clause-taken c = one_valid (bare c.args.scope.now) (Ref c.args.to) c.requires.to

pub returns-in_default-clause-exact : goal.returns-in_default-clause-exact
returns-in_default-clause-exact c = kept_none (where_stands c.args.scope.now c.args.draft.now) c.args.to c.args.u.now _
    (rw c.as_slice-labels.ensures.value at c.in_default.ensures.exact)

pub returns-in_default-last_reference-clause-exact : goal.returns-in_default-last_reference-clause-exact
returns-in_default-last_reference-clause-exact c =
    let at = slice_get_read c.args.draft.now.labels.items _ c.in-Some.label c.index.result.now refl
    (rw c.as_slice-labels.ensures.value at c.in-Some.ensures.below) c.index.ensures in
    kept_some (where_stands c.args.scope.now c.args.draft.now) c.args.to c.args.u.now _ c.in-Some.label c.index.result.now None
    (rw c.as_slice-labels.ensures.value at c.in-Some.ensures.exact) at
    (sym (rw c.as_slice-taken.ensures at c.in_default-last_reference.ensures))

pub returns-clause-exact : goal.returns-clause-exact
returns-clause-exact c =
    let at = slice_get_read c.args.draft.now.labels.items _ c.in-Some.label c.index.result.now refl
    (rw c.as_slice-labels.ensures.value at c.in-Some.ensures.below) c.index.ensures in
    let last = sym (rw c.as_slice-taken.ensures at c.in-Some-last_reference.ensures) in
    rw c.in_ok-node.ensures.exact
    (kept_some (where_stands c.args.scope.now c.args.draft.now) c.args.to c.args.u.now _ c.in-Some.label c.index.result.now
    (Some c.in-Some-last_reference.from) (rw c.as_slice-labels.ensures.value at c.in-Some.ensures.exact) at last)

pub returns-clause-offer : goal.returns-clause-offer
returns-clause-offer c =
    let last = sym (rw c.as_slice-taken.ensures at c.in-Some-last_reference.ensures) in
    rw c.in_ok-node.ensures.exact
    (kept_cast_gives c.args.scope.now c.args.draft.now.labels.items c.args.draft.now.set.items c.args.to c.in-Some-last_reference.from
    c.in-Some.label c.index.result.now c.requires.scope.orderly c.requires.labels
    (rw c.as_slice-labels.ensures.value at c.in-Some.ensures.below) c.index.ensures
    (rw c.as_slice-labels.ensures.value at c.in-Some.ensures.offered) last c.requires.to)
