use Rattle.smith_body_law.proofs.BarrenLemmas.{barren}
use Rattle.smith_body_law.proofs.only_barren_types_have_no_other.Goals as goal

pub returns : goal.returns
returns c = λ config context set wanted few valid gc every none. barren config context set wanted few valid gc every none
