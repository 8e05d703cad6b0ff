use Rattle.smith_check_branches.proofs.Common.{[], ap, ◌++◌, ◌∙◌, ◌∷◌}
use Rattle.smith_check_branches.proofs.NonNullLemmas.{ends_in_none, ends_in_other, last_reference}
use Rattle.smith_check_branches.proofs.references.split_reference.Goals as goal

pub returns-in_default : goal.returns-in_default
returns-in_default c = ends_in_none c.args.values.now c.in_default.ensures.cases

pub returns-in_default-reference_of : goal.returns-in_default-reference_of
returns-in_default-reference_of c =
    ends_in_other c.args.values.now c.in-Some.others.now c.in-Some.last.now c.in-Some.ensures.cases.0 c.in_default-reference_of.ensures

pub returns : goal.returns
returns c =
    c.in-Some.ensures.cases.0 ∙ ap (λ v. c.in-Some.others.now ++ v ∷ [])
    (last_reference c.in-Some.last.now c.in-Some-reference_of.reference c.in-Some-reference_of.ensures)
