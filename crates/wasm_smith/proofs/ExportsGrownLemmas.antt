-- Existing exports stay valid as index spaces grow, and stay the same as those of a shape.
use Rattle.std.specs.Prelude.{List}
use Rattle.std.specs.List.{AllZip}
use Rattle.smith_types.specs.Exports.{AreExportsValid}
use Rattle.wasm_smith.proofs.Common.{AreExportsValid-grown, AreSpacesGrown, EntitySpaces, EntityType, Export}
use Rattle.smith_types.proofs.ExportGrowthLemmas.{IsEntityAt-grown}
use Rattle.smith_types.proofs.ListLemmas.{AllZip-weaker}
use Rattle.smith_module_rules.specs.ShapesKept.{IsSameExport}

-- valid exports stay valid
pub exports_grown : (old new : EntitySpaces) (exports : List Export) → AreSpacesGrown old new → AreExportsValid old exports
    → AreExportsValid new exports
exports_grown old new exports longer h = AreExportsValid-grown old new longer exports h

-- an export that is the same as another stays the same
pub same_export_grown : (IsSame : EntityType → EntityType → Type 0) (ours longer theirs : EntitySpaces) (one other : Export)
    → AreSpacesGrown ours longer → IsSameExport IsSame ours theirs one other → IsSameExport IsSame longer theirs one other
same_export_grown IsSame ours longer theirs one other grown h = record {
  name = h.name;
  kind = h.kind;
  mine = h.mine;
  yours = h.yours;
  mine_is = IsEntityAt-grown ours longer grown one.1 one.2 h.mine h.mine_is;
  yours_is = h.yours_is;
  same = h.same;
}

-- all exports that are the same as others stay the same
pub same_exports_grown : (IsSame : EntityType → EntityType → Type 0) (ours longer theirs : EntitySpaces) (exports others : List Export)
    → AreSpacesGrown ours longer → AllZip (IsSameExport IsSame ours theirs) exports others
    → AllZip (IsSameExport IsSame longer theirs) exports others
same_exports_grown IsSame ours longer theirs exports others grown h = AllZip-weaker (IsSameExport IsSame ours theirs)
    (IsSameExport IsSame longer theirs) (λ one other same. same_export_grown IsSame ours longer theirs one other grown same) exports others
    h
