use Rattle.smith_body_nodes.proofs.Common.{arith, ◌<◌}
use Rattle.smith_body_nodes.proofs.ItemLemmas.{index_none, index_there}
use Rattle.smith_body_nodes.proofs.items.draw_index.Goals as goal

pub returns-then-last-eq0-clause-exact : goal.returns-then-last-eq0-clause-exact
returns-then-last-eq0-clause-exact c = index_none c.args.count c.args.u.now
    (omega (arith, c.if-last-eq0.true, c.indexed_count-last.ensures))

pub returns-clause-exact : goal.returns-clause-exact
returns-clause-exact c =
    let drawn = rw (c.new.ensures.start, c.new.ensures.end, c.indexed_count-last.ensures) at c.int_in_range.ensures.exact in
    let some : 0 < c.args.count = omega (arith, c.if-last-eq0.false, c.indexed_count-last.ensures) in
    index_there c.args.count c.args.u.now _ c.int_in_range.result drawn some
