use Rattle.smith_draw_shape_imports.proofs.Common.{[], drop}
use Rattle.smith_bytes.specs.Source.{KeepsPieces}
use Rattle.smith_draw_shape_imports.specs.AvailableImports.{picked_at, CountsTaken}
use Rattle.smith_draw_shape_imports.proofs.TakenImportsLoop.{IsPicking}
use Rattle.smith_draw_shape_imports.proofs.taken_imports.take_imports.Given as goal

abbrev pub invariant-loop-one : goal.invariant-loop-one
invariant-loop-one l = record {
  counts : CountsTaken l.types.types l.imported l.taken;
  so_far : IsPicking l.config l.types.types l.taken (drop l.one-index l.offered) l.u (picked_at l.config l.types.types [] l.offered l.fn.u);
  left : KeepsPieces l.fn.u l.u;
}
