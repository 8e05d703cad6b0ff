use Rattle.smith_draw_contents.proofs.OfferedKindLemmas.{AreTablesDrawn}
use Rattle.smith_draw_contents.proofs.element_kinds.draw_tables.Given as goal

abbrev pub invariant-loop-table : goal.invariant-loop-table
invariant-loop-table l = AreTablesDrawn l.tables l.table-index l.offered l.fn.u l.u
