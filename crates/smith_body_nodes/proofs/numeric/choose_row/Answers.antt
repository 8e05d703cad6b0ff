use Rattle.smith_body_nodes.proofs.Common.{arith, length, ◌<◌}
use Rattle.smith_body_nodes.proofs.NumericNodeLemmas.{numeric_row}
use Rattle.smith_body_nodes.proofs.NumericChoiceLemmas.{numeric_none, numeric_there}
use Rattle.smith_body_nodes.proofs.numeric.choose_row.Goals as goal

pub returns-clause-offer : goal.returns-clause-offer
returns-clause-offer c = λ context set.
    let inside : c.int_in_range.result < length c.args.rows.now = omega (
      arith,
      c.int_in_range.ensures.within,
      c.new.ensures.end,
      c.if-rows-eq0.false,
    ) in
    rw (c.in_ok-node.ensures.exact, c.operands.ensures, c.saturating_sub-drops.ensures, c.results.ensures)
    (numeric_row c.args.rows.now c.int_in_range.result _ c.args.wanted c.requires.rows inside context set)

pub returns-then-rows-eq0-clause-exact : goal.returns-then-rows-eq0-clause-exact
returns-then-rows-eq0-clause-exact c = numeric_none c.args.rows.now c.args.wanted c.args.u.now c.requires.rows
    (omega (arith, c.if-rows-eq0.true))

pub returns-clause-exact : goal.returns-clause-exact
returns-clause-exact c =
    let inside : c.int_in_range.result < length c.args.rows.now = omega (
      arith,
      c.int_in_range.ensures.within,
      c.new.ensures.end,
      c.if-rows-eq0.false,
    ) in
    let drawn = rw (c.new.ensures.start, c.new.ensures.end) at c.int_in_range.ensures.exact in
    rw (c.in_ok-node.ensures.exact, c.operands.ensures, c.saturating_sub-drops.ensures, c.results.ensures)
    (numeric_there c.args.rows.now c.args.wanted c.args.u.now _ c.int_in_range.result _ c.requires.rows drawn inside)
