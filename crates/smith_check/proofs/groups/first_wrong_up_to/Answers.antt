use Rattle.smith_check.proofs.Common.{arith, features_in, IsTypeSectionValid, subst, take}
use Rattle.smith_check.proofs.GroupLemmas.{before_in_front, checked_valid, few_in_first, front_is, wrong_in_front}
use Rattle.smith_check.proofs.groups.first_wrong_up_to.Goals as goal

pub check_types-requires : goal.check_types-requires
check_types-requires c = record {
  few = let less = few_in_first c.args.groups.now c.min.result in let few = c.requires in omega (arith, less, few);
}

pub returns-in-Some-clause-before : goal.returns-in-Some-clause-before
returns-in-Some-clause-before c =
    let features = features_in c.args.features in
    let front = checked_valid features (take c.min.result c.args.groups.now) c.in_ok-found.found _ c.in_ok-found.ensures.decided
    c.in-Some.is in
    subst (IsTypeSectionValid features) (front_is c.args.groups.now c.args.several) (rw c.min.ensures at front)

pub first_wrong_group-requires-clause-few : goal.first_wrong_group-requires-clause-few
first_wrong_group-requires-clause-few c =
    let less = few_in_first c.args.groups.now c.min.result in let few = c.requires in omega (arith, less, few)

pub first_wrong_group-requires-clause-wrong : goal.first_wrong_group-requires-clause-wrong
first_wrong_group-requires-clause-wrong c = rw c.in-None.is at c.in_ok-found.ensures.decided

pub returns-in_ok-group-in-None-clause-before : goal.returns-in_ok-group-in-None-clause-before
returns-in_ok-group-in-None-clause-before c =
    before_in_front (features_in c.args.features) c.args.groups.now c.min.result c.in_ok-group-in-None.group
    c.in_ok-group-in-None.ensures.before c.in_ok-group-in-None.ensures.within

pub returns-in_ok-group-in-None-clause-first : goal.returns-in_ok-group-in-None-clause-first
returns-in_ok-group-in-None-clause-first c =
    wrong_in_front (features_in c.args.features) c.args.groups.now c.min.result c.args.several c.in_ok-group-in-None.group
    c.in_ok-group-in-None.ensures.first c.in_ok-group-in-None.ensures.within
