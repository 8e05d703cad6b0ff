use Rattle.std.specs.Prelude.{true}
use Rattle.smith_draw_definitions.proofs.Common.{AreKeptOffers, spaces_in}
use Rattle.smith_draw_definitions.specs.RequiredExports.{scope_beside}
use Rattle.smith_draw_definitions.proofs.RequiredExportsLoop.{AreRequiring}
use Rattle.smith_draw_definitions.proofs.shape_exports.push_exports.Given as goal

abbrev pub invariant-loop-one : goal.invariant-loop-one
invariant-loop-one l = record {
  requiring : AreRequiring l.own_types l.config l.shape l.fn.types (spaces_in l.fn.spaces) l.fn.definitions l.one-index l.types
      (spaces_in l.spaces) l.definitions l.exports l.fn.u l.u;
  kept : AreKeptOffers (scope_beside l.config l.types.types (spaces_in l.spaces) l.definitions true) l.kept;
}
