use Rattle.smith_decode.proofs.ElementLemmas as elements
use Rattle.smith_decode.proofs.DataLemmas as data_segments
use Rattle.smith_decode.proofs.laws.segments_are_read.Goals as goal

pub returns-clause-elements : goal.returns-clause-elements
returns-clause-elements c = elements.segment_decodes

pub returns-clause-view : goal.returns-clause-view
returns-clause-view c = elements.segment_viewed

pub returns-clause-data_segments : goal.returns-clause-data_segments
returns-clause-data_segments c = data_segments.segment_decodes
