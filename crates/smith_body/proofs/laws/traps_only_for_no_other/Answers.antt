use Rattle.smith_body_leaves.proofs.NoOtherLemmas.{no_other}
use Rattle.smith_body.proofs.laws.traps_only_for_no_other.Goals as goal

pub returns : goal.returns
returns c = λ config context set wanted bytes orderly trapless stop. no_other config context set wanted bytes orderly trapless stop
