use Rattle.smith_body_reference_branches.proofs.Common.{refl, slice_get_read, sym, where_stands, ◌∙◌}
use Rattle.smith_body_reference_branches.proofs.NullLemmas.{br_on_null_gives, br_on_null_none, br_on_null_off, br_on_null_there}
use Rattle.smith_body_reference_branches.proofs.null_branches.choose_br_on_null.Goals as goal

pub returns-then-not-contains-clause-exact : goal.returns-then-not-contains-clause-exact
returns-then-not-contains-clause-exact c = br_on_null_off (where_stands c.args.scope.now c.args.draft.now) c.args.u.now
    (sym c.contains.ensures ∙ c.if-not-contains.true)

pub returns-in_default-clause-exact : goal.returns-in_default-clause-exact
returns-in_default-clause-exact c = br_on_null_none (where_stands c.args.scope.now c.args.draft.now) c.args.u.now _
    (sym c.contains.ensures ∙ c.if-not-contains.false) c.in_default.ensures.exact

pub returns-clause-exact : goal.returns-clause-exact
returns-clause-exact c =
    let at = slice_get_read c.args.draft.now.labels.items _ c.in-Some.label c.index.result.now refl c.in-Some.ensures.below
    c.index.ensures in
    rw (c.in_ok-node.ensures.exact, c.as_slice-taken.ensures, c.nullable_to.ensures)
    (br_on_null_there (where_stands c.args.scope.now c.args.draft.now) c.args.u.now _ _ c.in-Some.label c.draw_referent-heap_type.result
    c.index.result.now (sym c.contains.ensures ∙ c.if-not-contains.false) c.in-Some.ensures.exact
    c.draw_referent-heap_type.ensures.exact at)

pub returns-clause-offer : goal.returns-clause-offer
returns-clause-offer c =
    rw (c.in_ok-node.ensures.exact, c.as_slice-taken.ensures, c.nullable_to.ensures)
    (br_on_null_gives c.args.scope.now c.args.draft.now.labels.items c.args.draft.now.set.items c.in-Some.label
    c.draw_referent-heap_type.result c.index.result.now c.requires.labels c.in-Some.ensures.below c.index.ensures
    c.in-Some.ensures.offered (sym c.contains.ensures ∙ c.if-not-contains.false) c.draw_referent-heap_type.ensures.valid)
