use Rattle.smith_draw_contents.proofs.Common.{rules}
use Rattle.smith_draw_contents.proofs.OfferedKindLemmas.{tables_begin, tables_more, tables_skip, tables_done}
use Rattle.smith_draw_contents.proofs.element_kinds.draw_tables.Goals as goal

pub loop-table-init : goal.loop-table-init
loop-table-init c = tables_begin c.args.tables.now c.new-offered.result c.args.u.now c.new-offered.ensures

pub loop-table-preserved-then-not-is_offered : goal.loop-table-preserved-then-not-is_offered
loop-table-preserved-then-not-is_offered c =
    tables_skip c.loop-table.invariant c.loop-table-test.true (search rules) c.is_offered.ensures.exact c.if-not-is_offered.true
    c.in_ok-leave_out.ensures.ok c.is_offered.ensures.left

pub loop-table-preserved : goal.loop-table-preserved
loop-table-preserved c =
    tables_more c.loop-table.invariant c.loop-table-test.true (search rules) c.is_offered.ensures.exact c.if-not-is_offered.false
    c.offer.ensures c.is_offered.ensures.left

pub returns-clause-kinds : goal.returns-clause-kinds
returns-clause-kinds c = tables_done c.loop-table.invariant c.loop-table-test.false
