use Rattle.smith_check.proofs.Common.{features_in}
use Rattle.smith_check.proofs.CheckLemmas.{section_judgement}
use Rattle.smith_check.proofs.judge.check_over.Goals as goal

pub returns-in-Some-clause-decided : goal.returns-in-Some-clause-decided
returns-in-Some-clause-decided c =
    section_judgement (features_in c.args.features) c.args.module.now c.args.types.now c.in-Some.fault c.requires.supertypes
    c.requires.checked (rw c.in-Some.is at c.in_ok-found.ensures.decided) (rw c.in-Some.is at c.in_ok-found.ensures.first)
