use Rattle.smith_check.proofs.Common.{features_in}
use Rattle.smith_check.proofs.CheckLemmas.{several_judgement}
use Rattle.smith_check.proofs.judge.check.Goals as goal

pub returns-in_ok-group-in-Some-clause-decided : goal.returns-in_ok-group-in-Some-clause-decided
returns-in_ok-group-in-Some-clause-decided c =
    several_judgement (features_in c.args.features) c.args.module.now c.in-Some.several c.in_ok-group-in-Some.group
    (rw c.as_slice.ensures at c.in-Some.ensures) (rw c.as_slice-groups.ensures at c.in_ok-group-in-Some.ensures.before)
    (rw c.as_slice-groups.ensures at c.in_ok-group-in-Some.ensures.first) c.in_ok-group-in-Some.ensures.within
