use Rattle.smith_body_leaves.proofs.Common.{None, Some, where_stands}
use Rattle.smith_body_leaves.proofs.PreferredLemmas.{brief_wider, only_wider, strict_is_below, value_created, value_function}
use Rattle.smith_body_leaves.proofs.PreferredLemmas.{value_variable}
use Rattle.smith_body_leaves.proofs.preferred.choose_value.Goals as goal

pub returns-in-Some-choose_created-clause-exact : goal.returns-in-Some-choose_created-clause-exact
returns-in-Some-choose_created-clause-exact c =
    value_created c.args.scope.now.config.now (where_stands c.args.scope.now c.args.draft.now) c.args.draft.now.set.items c.args.wanted
    c.strict_form-strict.result c.args.family c.args.u.now _ _ c.in-Some-choose_created.created c.strict_form-strict.ensures.exact
    c.in_default.ensures.exact
    c.in-Some-choose_created.ensures.exact

pub returns-in-Some-choose_created-clause-brief : goal.returns-in-Some-choose_created-clause-brief
returns-in-Some-choose_created-clause-brief c =
    let place = where_stands c.args.scope.now c.args.draft.now in
    brief_wider place c.args.draft.now.set.items c.strict_form-strict.result c.args.wanted c.in-Some-choose_created.created
    (strict_is_below place.types place.features c.args.wanted c.strict_form-strict.result c.strict_form-strict.ensures.exact)
    (c.in-Some-choose_created.ensures.brief c.args.draft.now)

pub returns-in-Some-choose_of-clause-exact : goal.returns-in-Some-choose_of-clause-exact
returns-in-Some-choose_of-clause-exact c =
    rw c.only-in-Some-choose_of.ensures
    (value_function c.args.scope.now.config.now (where_stands c.args.scope.now c.args.draft.now) c.args.draft.now.set.items c.args.wanted
    c.strict_form-strict.result c.args.family c.args.u.now _ _ _ c.in-Some-choose_of.function c.strict_form-strict.ensures.exact
    c.in_default.ensures.exact
    c.in_default-choose_created.ensures.exact c.in-Some-choose_of.ensures.exact)

pub returns-in-Some-choose_of-clause-brief : goal.returns-in-Some-choose_of-clause-brief
returns-in-Some-choose_of-clause-brief c =
    let place = where_stands c.args.scope.now c.args.draft.now in
    rw c.only-in-Some-choose_of.ensures
    (only_wider place c.args.draft.now.set.items c.strict_form-strict.result c.args.wanted c.in-Some-choose_of.function
    (strict_is_below place.types place.features c.args.wanted c.strict_form-strict.result c.strict_form-strict.ensures.exact)
    c.in-Some-choose_of.ensures.typed)

pub returns-in_err-variable-clause-exact : goal.returns-in_err-variable-clause-exact
returns-in_err-variable-clause-exact c =
    rw c.from_residual.ensures
    (value_variable c.args.scope.now.config.now (where_stands c.args.scope.now c.args.draft.now) c.args.draft.now.set.items c.args.wanted
    c.strict_form-strict.result c.args.family c.args.u.now _ _ _ _ None c.strict_form-strict.ensures.exact c.in_default.ensures.exact
    c.in_default-choose_created.ensures.exact c.in_default-choose_of.ensures.exact c.in_err-variable.ensures.exact)

pub returns-clause-exact : goal.returns-clause-exact
returns-clause-exact c =
    rw c.only-2.ensures
    (value_variable c.args.scope.now.config.now (where_stands c.args.scope.now c.args.draft.now) c.args.draft.now.set.items c.args.wanted
    c.strict_form-strict.result c.args.family c.args.u.now _ _ _ _ (Some c.in_ok-variable.variable) c.strict_form-strict.ensures.exact
    c.in_default.ensures.exact
    c.in_default-choose_created.ensures.exact c.in_default-choose_of.ensures.exact c.in_ok-variable.ensures.exact)
