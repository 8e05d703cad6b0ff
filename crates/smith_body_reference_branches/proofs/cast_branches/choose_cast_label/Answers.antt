use Rattle.smith_body_reference_branches.proofs.Common.{None, refl, slice_get_read, Some, sym}
use Rattle.smith_body_reference_branches.proofs.CastBranchLemmas.{cast_label_none, cast_label_some, last_at}
use Rattle.smith_body_reference_branches.proofs.cast_branches.choose_cast_label.Goals as goal

pub returns-in_err-label-clause-exact : goal.returns-in_err-label-clause-exact
returns-in_err-label-clause-exact c =
    rw c.from_residual.ensures (cast_label_none c.args.draft.now.labels.items c.args.u.now _ c.in_err-label.ensures.exact)

pub returns-in_err-last-clause-exact : goal.returns-in_err-last-clause-exact
returns-in_err-last-clause-exact c =
    let at = slice_get_read c.args.draft.now.labels.items _ c.in_ok-label.label c.index.result.now refl c.in_ok-label.ensures.below
    c.index.ensures in
    rw c.from_residual-in_err-last.ensures
    (cast_label_some c.args.draft.now.labels.items c.args.u.now _ c.in_ok-label.label c.index.result.now None c.in_ok-label.ensures.exact at
    (sym (rw c.as_slice-taken.ensures at c.in_err-last.ensures)))

pub returns-clause-exact : goal.returns-clause-exact
returns-clause-exact c =
    let at = slice_get_read c.args.draft.now.labels.items _ c.in_ok-label.label c.index.result.now refl c.in_ok-label.ensures.below
    c.index.ensures in
    cast_label_some c.args.draft.now.labels.items c.args.u.now _ c.in_ok-label.label c.index.result.now (Some c.in_ok-last.last)
    c.in_ok-label.ensures.exact at (sym (rw c.as_slice-taken.ensures at c.in_ok-last.ensures))

pub returns-clause-last : goal.returns-clause-last
returns-clause-last c =
    let at = slice_get_read c.args.draft.now.labels.items _ c.in_ok-label.label c.index.result.now refl c.in_ok-label.ensures.below
    c.index.ensures in
    last_at c.args.draft.now.labels.items c.in_ok-label.label c.index.result.now c.in_ok-last.last at
    (sym (rw c.as_slice-taken.ensures at c.in_ok-last.ensures))
