use Rattle.smith_binary_law.proofs.SegmentLemmas.{elem_typed, elem_type_below}
use Rattle.smith_binary_law.proofs.laws.valid_elements_stay_valid.Goals as goal

pub returns-clause-typed : goal.returns-clause-typed
returns-clause-typed c = elem_typed

pub returns-clause-below : goal.returns-clause-below
returns-clause-below c types segment listed = elem_type_below types segment.items segment.ty listed
