use Rattle.std.proofs.Common.{sym, subst}
use Rattle.std.specs.List.{Contains}
use Rattle.smith_wrong.specs.declared.families.Family.{Family}
use Rattle.smith_wrong.proofs.WrongLemmas.{judged_family}
use Rattle.smith_wrong.proofs.wrong.try_change.Goals as goal

pub returns-in-Some-2-clause-family : goal.returns-in-Some-2-clause-family
returns-in-Some-2-clause-family c =
    judged_family c.args.families.now c.judge_change.result c.in-Some-2.file
    (subst (λ (one : Family). Contains c.args.families.now one) (sym (rw c.in-Some-2.is at c.in_ok-file.ensures.family))
    c.in-Some.ensures.among) c.judge_change.ensures.same
