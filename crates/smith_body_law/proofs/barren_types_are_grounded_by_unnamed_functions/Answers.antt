use Rattle.smith_body_law.proofs.UnnamedLemmas.{by_unnamed}
use Rattle.smith_body_law.proofs.barren_types_are_grounded_by_unnamed_functions.Goals as goal

pub returns : goal.returns
returns c = λ context body heap_type same grounded barren. by_unnamed context body heap_type same grounded barren
