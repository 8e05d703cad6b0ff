use Rattle.std.specs.Prelude.{false}
use Rattle.smith_draw_definitions.proofs.Common.{AreKeptOffers, seen_by}
use Rattle.smith_draw_definitions.specs.Defined.{scope_of_spaces}
use Rattle.smith_draw_definitions.proofs.DefinedTablesLoop.{IsDefiningTables}
use Rattle.smith_draw_definitions.proofs.tables.push_tables.Given as goal

abbrev pub invariant-loop-made : goal.invariant-loop-made
invariant-loop-made l = record {
  defining : IsDefiningTables l.config (scope_of_spaces l.spaces) l.fn.tables l.tables l.fn.initials l.initials l.made l.fn.u l.u;
  kept : AreKeptOffers (seen_by l.config l.spaces false) l.kept;
}
