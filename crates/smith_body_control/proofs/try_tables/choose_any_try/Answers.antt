use Rattle.smith_body_control.proofs.Common.{as_node, func_there, ok_like, where_stands}
use Rattle.smith_body_control.proofs.TryLemmas.{any_try_by, empty_try, func_try}
use Rattle.smith_body_control.proofs.try_tables.choose_any_try.Goals as goal

pub returns-in-Some-clause-node : goal.returns-in-Some-clause-node
returns-in-Some-clause-node c =
    let there = func_there _ c.int_in_range-index.result c.in-Some.function.now c.in-Some.ensures in
    ok_like _ c.try_table.result (func_try (where_stands c.args.scope.now c.args.draft.now) c.args.draft.now.set.items
    c.in_ok-clauses.clauses c.int_in_range-index.result c.in-Some.function.now
    (rw c.as_slice.ensures.value at c.in_ok-clauses.ensures.fit) there
    (c.requires.scope.params_valid c.int_in_range-index.result c.in-Some.function.now there)
    (c.requires.scope.results_valid c.int_in_range-index.result c.in-Some.function.now there))
    (rw (c.as_slice-in-Some.ensures, c.as_slice-in-Some-2.ensures, c.len.ensures) at c.try_table.ensures.exact)

pub returns-in-None-clause-node : goal.returns-in-None-clause-node
returns-in-None-clause-node c =
    ok_like _ c.try_table-in-None.result (empty_try (where_stands c.args.scope.now c.args.draft.now) c.args.draft.now.set.items
    c.in_ok-clauses.clauses (rw c.as_slice.ensures.value at c.in_ok-clauses.ensures.fit)) c.try_table-in-None.ensures.exact

pub returns-in-Some-clause-exact : goal.returns-in-Some-clause-exact
returns-in-Some-clause-exact c =
    let drawn = rw (c.new.ensures.start, c.new.ensures.end, c.indexed_count.ensures, c.types.ensures.value) at
    c.int_in_range-index.ensures.exact in
    ok_like _ c.try_table.result
    (as_node _ _ _ (any_try_by (where_stands c.args.scope.now c.args.draft.now) c.args.u.now _ _ c.in_ok-clauses.clauses
    c.int_in_range-index.result _ (rw c.as_slice.ensures.value at c.in_ok-clauses.ensures.exact) drawn c.in-Some.ensures))
    (rw (c.as_slice-in-Some.ensures, c.as_slice-in-Some-2.ensures, c.len.ensures) at c.try_table.ensures.exact)

pub returns-in-None-clause-exact : goal.returns-in-None-clause-exact
returns-in-None-clause-exact c =
    let drawn = rw (c.new.ensures.start, c.new.ensures.end, c.indexed_count.ensures, c.types.ensures.value) at
    c.int_in_range-index.ensures.exact in
    ok_like _ c.try_table-in-None.result
    (as_node _ _ _ (any_try_by (where_stands c.args.scope.now c.args.draft.now) c.args.u.now _ _ c.in_ok-clauses.clauses
    c.int_in_range-index.result _ (rw c.as_slice.ensures.value at c.in_ok-clauses.ensures.exact) drawn c.in-None.ensures))
    c.try_table-in-None.ensures.exact
