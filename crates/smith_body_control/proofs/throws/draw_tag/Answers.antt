use Rattle.smith_body_control.proofs.Common.{arith}
use Rattle.smith_body_control.proofs.ThrowLemmas.{tag_drawn, tag_none}
use Rattle.smith_body_control.proofs.throws.draw_tag.Goals as goal

pub returns-then-count-eq0-clause-exact : goal.returns-then-count-eq0-clause-exact
returns-then-count-eq0-clause-exact c = tag_none c.args.scope.now.tags.now c.args.u.now
    (omega (arith, c.if-count-eq0.true, c.indexed_count-count.ensures))

pub returns-clause-exact : goal.returns-clause-exact
returns-clause-exact c =
    tag_drawn c.args.scope.now.tags.now c.args.u.now _ c.int_in_range-tag.result
    (omega (arith, c.if-count-eq0.false, c.indexed_count-count.ensures))
    (rw (c.new.ensures.start, c.new.ensures.end, c.indexed_count-count.ensures) at c.int_in_range-tag.ensures.exact)
