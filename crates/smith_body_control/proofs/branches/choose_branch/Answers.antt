use Rattle.smith_body_control.proofs.Common.{arith, as_node, length, ok_like, refl, slice_get_read, where_stands, ◌<◌}
use Rattle.smith_body_control.proofs.BranchNodeLemmas.{br_if_node}
use Rattle.smith_body_nodes.proofs.ChosenLemmas.{as_nop}
use Rattle.smith_body_control.proofs.BranchChoiceLemmas.{branch_none, branch_there}
use Rattle.smith_body_control.proofs.branches.choose_branch.Goals as goal

pub returns-clause-node : goal.returns-clause-node
returns-clause-node c =
    let inside : c.int_in_range-index.result < length c.args.draft.now.labels.items =
    omega (
      arith,
      c.int_in_range-index.ensures.within,
      c.new.ensures.end,
      c.min-count.ensures,
      c.len.ensures,
      c.args.draft.now.labels.ok.0,
    ) in
    ok_like _ c.conditional.result (br_if_node c.args.scope.now c.args.draft.now.labels.items c.args.draft.now.set.items
    c.int_in_range-index.result c.index.result.now c.requires.labels inside c.index.ensures)
    (rw c.as_slice-taken.ensures at c.conditional.ensures.exact)

pub returns-then-count-eq0-clause-exact : goal.returns-then-count-eq0-clause-exact
returns-then-count-eq0-clause-exact c =
    ok_like _ c.plain.result
    (as_nop _ _ (branch_none (where_stands c.args.scope.now c.args.draft.now) c.args.u.now
    (omega (arith, c.if-count-eq0.true, c.min-count.ensures, c.len.ensures, c.args.draft.now.labels.ok.0)))) c.plain.ensures.exact

pub returns-clause-exact : goal.returns-clause-exact
returns-clause-exact c =
    let inside : c.int_in_range-index.result < length c.args.draft.now.labels.items =
    omega (
      arith,
      c.int_in_range-index.ensures.within,
      c.new.ensures.end,
      c.min-count.ensures,
      c.len.ensures,
      c.args.draft.now.labels.ok.0,
    ) in
    let drawn = rw (c.new.ensures.start, c.new.ensures.end, c.min-count.ensures, c.len.ensures, c.args.draft.now.labels.ok.0) at
    c.int_in_range-index.ensures.exact in
    let at = slice_get_read c.args.draft.now.labels.items _ c.int_in_range-index.result c.index.result.now refl inside c.index.ensures in
    ok_like _ c.conditional.result
    (as_node _ _ _ (branch_there (where_stands c.args.scope.now c.args.draft.now) c.args.u.now _ c.int_in_range-index.result
    c.index.result.now drawn at))
    (rw c.as_slice-taken.ensures at c.conditional.ensures.exact)
