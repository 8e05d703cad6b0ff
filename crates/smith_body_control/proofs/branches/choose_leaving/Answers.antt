use Rattle.smith_body_control.proofs.Common.{arith, label_count, length, ok_like, refl, slice_get_read, where_stands, ◌<◌}
use Rattle.smith_body_control.proofs.BranchNodeLemmas.{br_node, return_node}
use Rattle.smith_body_control.proofs.BranchChoiceLemmas.{leaving_none, leaving_out, leaving_there}
use Rattle.smith_body_control.proofs.branches.choose_leaving.Goals.{then-count-eq0-via-then-count-eq0}
use Rattle.smith_body_control.proofs.branches.choose_leaving.Goals.{then-count-eq0-via-else-count-eq0+then-arbitrary}
use Rattle.smith_body_control.proofs.branches.choose_leaving.Goals as goal

pub returns-then-count-eq0-clause-node : goal.returns-then-count-eq0-clause-node
returns-then-count-eq0-clause-node c = λ values valid.
    ok_like _ c.plain.result (return_node (where_stands c.args.scope.now c.args.draft.now) c.args.draft.now.set.items values
    c.requires.scope.results c.requires.scope.results_few valid) c.plain.ensures.exact

pub returns-clause-node : goal.returns-clause-node
returns-clause-node c = λ values valid.
    let inside : c.int_in_range-index.result < length c.args.draft.now.labels.items =
    omega (
      arith,
      c.int_in_range-index.ensures.within,
      c.new.ensures.end,
      c.min-count.ensures,
      c.len.ensures,
      c.args.draft.now.labels.ok.0,
    ) in
    ok_like _ c.plain-2.result (br_node c.args.scope.now c.args.draft.now.labels.items c.args.draft.now.set.items
    c.int_in_range-index.result c.index.result.now values c.requires.labels inside c.index.ensures valid)
    (rw c.as_slice-taken.ensures at c.plain-2.ensures.exact)

pub returns-then-count-eq0-clause-exact : goal.returns-then-count-eq0-clause-exact
returns-then-count-eq0-clause-exact c = elim c.then-count-eq0.branch [
  | then-count-eq0-via-then-count-eq0 w ↦
      rw w.u-is (ok_like _ c.plain.result (leaving_none (where_stands c.args.scope.now c.args.draft.now) c.args.u.now
      (omega (arith, w.if-count-eq0.true, c.min-count.ensures, c.len.ensures, c.args.draft.now.labels.ok.0))) c.plain.ensures.exact)
  | then-count-eq0-via-else-count-eq0+then-arbitrary w ↦
      let some : 0 < label_count (where_stands c.args.scope.now c.args.draft.now) =
      omega (arith, w.if-count-eq0.false, c.min-count.ensures, c.len.ensures, c.args.draft.now.labels.ok.0) in
      rw w.u-is (ok_like _ c.plain.result (leaving_out (where_stands c.args.scope.now c.args.draft.now) c.args.u.now _ some
      (rw w.if-arbitrary.true at w.arbitrary.ensures.exact)) c.plain.ensures.exact)
]

pub returns-clause-exact : goal.returns-clause-exact
returns-clause-exact c =
    let inside : c.int_in_range-index.result < length c.args.draft.now.labels.items =
    omega (
      arith,
      c.int_in_range-index.ensures.within,
      c.new.ensures.end,
      c.min-count.ensures,
      c.len.ensures,
      c.args.draft.now.labels.ok.0,
    ) in
    let some : 0 < label_count (where_stands c.args.scope.now c.args.draft.now) =
    omega (arith, c.if-count-eq0.false, c.min-count.ensures, c.len.ensures, c.args.draft.now.labels.ok.0) in
    let drawn = rw (c.new.ensures.start, c.new.ensures.end, c.min-count.ensures, c.len.ensures, c.args.draft.now.labels.ok.0) at
    c.int_in_range-index.ensures.exact in
    let at = slice_get_read c.args.draft.now.labels.items _ c.int_in_range-index.result c.index.result.now refl inside c.index.ensures in
    ok_like _ c.plain-2.result (leaving_there (where_stands c.args.scope.now c.args.draft.now) c.args.u.now _ _ c.int_in_range-index.result
    c.index.result.now some (rw c.if-arbitrary.false at c.arbitrary.ensures.exact) drawn at)
    (rw c.as_slice-taken.ensures at c.plain-2.ensures.exact)
