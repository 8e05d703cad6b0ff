use Rattle.smith_body_control.proofs.Common.{None, Some, where_stands}
use Rattle.smith_body_control.proofs.ThrowLemmas.{tag_there, throw_by, throw_gives, throw_none}
use Rattle.smith_body_control.proofs.throws.choose_throw.Goals as goal

pub returns-in_default-clause-exact : goal.returns-in_default-clause-exact
returns-in_default-clause-exact c = throw_none (where_stands c.args.scope.now c.args.draft.now) c.args.u.now _ c.in_default.ensures.exact

pub returns-in_default-tag_type_of-clause-exact : goal.returns-in_default-tag_type_of-clause-exact
returns-in_default-tag_type_of-clause-exact c = throw_by (where_stands c.args.scope.now c.args.draft.now) c.args.u.now _ c.in-Some.tag None
    c.in-Some.ensures.exact c.in_default-tag_type_of.ensures

pub returns-clause-exact : goal.returns-clause-exact
returns-clause-exact c =
    rw (c.in_ok-node.ensures.exact, c.as_slice.ensures)
    (throw_by (where_stands c.args.scope.now c.args.draft.now) c.args.u.now _ c.in-Some.tag (Some c.in-Some-tag_type_of.ty.now)
    c.in-Some.ensures.exact c.in-Some-tag_type_of.ensures)

pub returns-clause-offer : goal.returns-clause-offer
returns-clause-offer c = λ values valid.
    let context = where_stands c.args.scope.now c.args.draft.now in
    let ty = c.in-Some-tag_type_of.ty.now in
    let there = tag_there context c.in-Some.tag ty c.in-Some-tag_type_of.ensures in
    rw (c.in_ok-node.ensures.exact, c.as_slice.ensures)
    (throw_gives context c.args.draft.now.set.items c.in-Some.tag ty values c.requires.scope.tags
    (c.requires.scope.params_valid there.0 ty there.2) c.in-Some-tag_type_of.ensures valid)
