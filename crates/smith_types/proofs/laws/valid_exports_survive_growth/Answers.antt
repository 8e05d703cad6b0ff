use Rattle.smith_types.proofs.ExportGrowthLemmas.{IsEntityAt-grown, AreExportsValid-grown, IsStartValid-grown}
use Rattle.smith_types.proofs.laws.valid_exports_survive_growth.Goals as goal

pub returns : goal.returns
returns c = record {
  entity = λ old new kind index ty growth h. IsEntityAt-grown old new growth kind index ty h;
  exports = λ old new exports growth h. AreExportsValid-grown old new growth exports h;
  start = IsStartValid-grown;
}
