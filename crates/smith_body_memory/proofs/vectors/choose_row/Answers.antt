use Rattle.smith_body_memory.proofs.Common.{arith, length, where_stands, ◌<◌}
use Rattle.smith_body_memory.proofs.VectorNodeLemmas.{vector_row}
use Rattle.smith_body_memory.proofs.VectorChoiceLemmas.{vector_none, vector_there}
use Rattle.smith_body_memory.proofs.vectors.choose_row.Goals as goal

pub returns-clause-offer : goal.returns-clause-offer
returns-clause-offer c =
    let inside : c.int_in_range.result < length c.args.rows.now = omega (
      arith,
      c.int_in_range.ensures.within,
      c.new.ensures.end,
      c.if-rows-eq0.false,
    ) in
    rw (c.in_ok-node.ensures.exact, c.operands.ensures)
    (vector_row (where_stands c.args.scope.now c.args.draft.now) c.args.draft.now.set.items c.args.rows.now c.int_in_range.result _
    c.draw_lanes-op.result c.args.wanted c.requires.simd c.requires.rows inside c.draw_lanes-op.ensures.typed)

pub returns-then-rows-eq0-clause-exact : goal.returns-then-rows-eq0-clause-exact
returns-then-rows-eq0-clause-exact c = vector_none c.args.rows.now c.args.wanted c.args.u.now c.requires.rows
    (omega (arith, c.if-rows-eq0.true))

pub returns-clause-exact : goal.returns-clause-exact
returns-clause-exact c =
    let inside : c.int_in_range.result < length c.args.rows.now = omega (
      arith,
      c.int_in_range.ensures.within,
      c.new.ensures.end,
      c.if-rows-eq0.false,
    ) in
    let drawn = rw (c.new.ensures.start, c.new.ensures.end) at c.int_in_range.ensures.exact in
    rw (c.in_ok-node.ensures.exact, c.operands.ensures)
    (vector_there c.args.rows.now c.args.wanted c.args.u.now _ _ c.int_in_range.result _ c.draw_lanes-op.result c.requires.rows drawn inside
    c.draw_lanes-op.ensures.exact)
