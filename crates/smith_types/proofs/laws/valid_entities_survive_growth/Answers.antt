use Rattle.smith_types.proofs.EntityGrowthLemmas.{IsTableValid-grown, IsGlobalValid-grown, IsTagValid-grown, IsFuncTypeIndex-grown}
use Rattle.smith_types.proofs.EntityGrowthLemmas.{AreEntitiesValid-grown}
use Rattle.smith_types.proofs.laws.valid_entities_survive_growth.Goals as goal

pub returns : goal.returns
returns c = record {
  table = IsTableValid-grown;
  global = IsGlobalValid-grown;
  tag = IsTagValid-grown;
  func = IsFuncTypeIndex-grown;
  all = AreEntitiesValid-grown;
}
