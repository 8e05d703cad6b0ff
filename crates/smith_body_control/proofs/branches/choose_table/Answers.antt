use Rattle.smith_body_control.proofs.Common.{arith, length, ok_like, refl, slice_get_read, where_stands, ◌<◌, ◌≡◌}
use Rattle.smith_body_control.proofs.BranchNodeLemmas.{return_node, table_node}
use Rattle.smith_body_control.proofs.BranchChoiceLemmas.{table_none, table_there}
use Rattle.smith_body_control.proofs.branches.choose_table.Goals as goal

pub returns-then-count-eq0-clause-node : goal.returns-then-count-eq0-clause-node
returns-then-count-eq0-clause-node c = λ values valid.
    ok_like _ c.plain.result (return_node (where_stands c.args.scope.now c.args.draft.now) c.args.draft.now.set.items values
    c.requires.scope.results c.requires.scope.results_few valid) c.plain.ensures.exact

pub returns-clause-node : goal.returns-clause-node
returns-clause-node c = λ values valid.
    let labels = c.args.draft.now.labels.items in
    let len : length c.as_slice-labels.result.now ≡ length c.args.draft.now.labels.items = rw c.as_slice-labels.ensures.value refl in
    let inside : c.int_in_range-index.result < length c.args.draft.now.labels.items =
    omega (arith, c.int_in_range-index.ensures.within, c.new.ensures.end, c.min-count.ensures) in
    let is = rw c.as_slice-labels.ensures.value at c.index-labels-index.is in
    let all = rw (c.as_slice-labels.ensures.value, c.as_slice-taken.ensures) at c.in_ok-targets.ensures.taken in
    ok_like _ c.conditional.result
    (table_node c.args.scope.now labels c.args.draft.now.set.items c.in_ok-targets.targets c.int_in_range-index.result
    c.index-labels-index.result values c.requires.labels inside is all valid)
    (rw c.as_slice-taken.ensures at c.conditional.ensures.exact)

pub returns-then-count-eq0-clause-exact : goal.returns-then-count-eq0-clause-exact
returns-then-count-eq0-clause-exact c =
    let len : length c.as_slice-labels.result.now ≡ length c.args.draft.now.labels.items = rw c.as_slice-labels.ensures.value refl in
    ok_like _ c.plain.result (table_none (where_stands c.args.scope.now c.args.draft.now) c.args.u.now
    (omega (arith, c.if-count-eq0.true, c.min-count.ensures))) c.plain.ensures.exact

pub returns-clause-exact : goal.returns-clause-exact
returns-clause-exact c =
    let len : length c.as_slice-labels.result.now ≡ length c.args.draft.now.labels.items = rw c.as_slice-labels.ensures.value refl in
    let inside : c.int_in_range-index.result < length c.args.draft.now.labels.items =
    omega (arith, c.int_in_range-index.ensures.within, c.new.ensures.end, c.min-count.ensures) in
    let drawn = rw (c.new.ensures.start, c.new.ensures.end, c.min-count.ensures, len) at c.int_in_range-index.ensures.exact in
    let is = rw c.as_slice-labels.ensures.value at c.index-labels-index.is in
    let at = slice_get_read c.args.draft.now.labels.items _ c.int_in_range-index.result c.index-labels-index.result refl inside is in
    let all = rw (c.as_slice-labels.ensures.value, c.as_slice-taken.ensures) at c.in_ok-targets.ensures.exact in
    ok_like _ c.conditional.result (table_there (where_stands c.args.scope.now c.args.draft.now) c.args.u.now _ _ c.in_ok-targets.targets
    c.int_in_range-index.result c.index-labels-index.result drawn at all)
    (rw c.as_slice-taken.ensures at c.conditional.ensures.exact)
