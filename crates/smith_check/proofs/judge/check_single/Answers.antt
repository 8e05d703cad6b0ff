use Rattle.smith_check.proofs.Common.{features_in}
use Rattle.smith_check.proofs.CheckLemmas.{types_judgement}
use Rattle.smith_check.proofs.judge.check_single.Goals as goal

pub returns-in_ok-group-in-None-clause-decided : goal.returns-in_ok-group-in-None-clause-decided
returns-in_ok-group-in-None-clause-decided c =
    types_judgement (features_in c.args.features) c.args.module.now c.in_ok-group-in-None.group c.requires.supertypes
    (rw (c.in-None.is, c.as_slice-groups.ensures) at c.in_ok-found.ensures.decided)
    (rw c.as_slice-groups.ensures at c.in_ok-group-in-None.ensures.before)
    (rw c.as_slice-groups.ensures at c.in_ok-group-in-None.ensures.first)
