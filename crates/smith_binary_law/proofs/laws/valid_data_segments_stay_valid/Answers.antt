use Rattle.smith_binary_law.proofs.SegmentLemmas.{data_typed}
use Rattle.smith_binary_law.proofs.laws.valid_data_segments_stay_valid.Goals as goal

pub returns : goal.returns
returns c = data_typed
