use Rattle.smith_types.proofs.SegmentGrowthLemmas.{IsElementSegmentValid-grown, IsDataValid-grown}
use Rattle.smith_types.proofs.laws.valid_segments_survive_growth.Goals as goal

pub returns : goal.returns
returns c = record {
  elem = λ old new tables more segment growth h. IsElementSegmentValid-grown old new growth tables more segment h;
  bytes = λ old new memories more segment growth h. IsDataValid-grown old new growth memories more segment h;
}
