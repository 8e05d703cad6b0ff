use Rattle.smith_body_nodes.specs.Scopes.{bare, where_stands}
use Rattle.std.proofs.Common.{sym, ◌∙◌}
use Rattle.smith_body_calls.proofs.CallLemmas.{by_reference_gives, by_reference_none, by_reference_off, by_reference_there}
use Rattle.smith_body_nodes.proofs.OfferLemmas.{both, func_there}
use Rattle.smith_body_calls.proofs.calls.choose_by_reference.Goals as goal

pub returns-then-not-may_name_types-clause-exact : goal.returns-then-not-may_name_types-clause-exact
returns-then-not-may_name_types-clause-exact c = by_reference_off (where_stands c.args.scope.now c.args.draft.now) c.args.outcome
    c.args.u.now (sym c.may_name_types.ensures ∙ c.if-not-may_name_types.true)

pub returns-in_default-clause-exact : goal.returns-in_default-clause-exact
returns-in_default-clause-exact c = by_reference_none (where_stands c.args.scope.now c.args.draft.now) c.args.outcome c.args.u.now _
    (sym c.may_name_types.ensures ∙ c.if-not-may_name_types.false) c.in_default.ensures.exact

pub returns-clause-exact : goal.returns-clause-exact
returns-clause-exact c =
    rw (c.in_ok-node.ensures.exact, c.as_slice.ensures, c.nullable_to.ensures, c.by_reference_instr.ensures, c.dropped_of.ensures)
    (by_reference_there (where_stands c.args.scope.now c.args.draft.now) c.args.outcome c.args.u.now _ c.in-Some.ty
    c.in-Some-func_type_at.function.now (sym c.may_name_types.ensures ∙ c.if-not-may_name_types.false) c.in-Some.ensures.exact
    c.in-Some-func_type_at.ensures)

pub returns-clause-offer : goal.returns-clause-offer
returns-clause-offer c = λ values left.
    let context = where_stands c.args.scope.now c.args.draft.now in
    let (on, gc) = both (bare c.args.scope.now).features.reference_types (bare c.args.scope.now).features.gc
    (sym c.may_name_types.ensures ∙ c.if-not-may_name_types.false) in
    let function = c.in-Some-func_type_at.function.now in
    let there = func_there context.types c.in-Some.ty function c.in-Some-func_type_at.ensures in
    rw (c.in_ok-node.ensures.exact, c.as_slice.ensures, c.nullable_to.ensures, c.by_reference_instr.ensures, c.dropped_of.ensures)
    (by_reference_gives context c.args.draft.now.set.items c.args.outcome function values c.in-Some.ty c.requires.scope.orderly
    c.requires.outcome (c.requires.scope.params_valid c.in-Some.ty function there)
    (c.requires.scope.results_valid c.in-Some.ty function there)
    on gc c.in-Some.ensures.offered c.in-Some-func_type_at.ensures left)
