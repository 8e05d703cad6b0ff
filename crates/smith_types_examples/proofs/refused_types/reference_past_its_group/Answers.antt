use Rattle.smith_types_examples.proofs.Common.{[], ◌∷◌, All-head, IsGroupValid, usual_features, range, referring}
use Rattle.smith_types_examples.proofs.TypeExamples.{referring_after}
use Rattle.smith_types_examples.proofs.refused_types.reference_past_its_group.Goals as goal

pub returns-clause-refused : goal.returns-clause-refused
returns-clause-refused c = λ valid. referring_after usual_features (All-head (IsGroupValid usual_features referring) (range 0 1)
    (range 1 2 ∷ []) valid.groups)
