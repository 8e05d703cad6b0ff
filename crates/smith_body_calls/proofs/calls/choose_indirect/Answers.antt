use Rattle.smith_body_nodes.specs.Scopes.{where_stands}
use Rattle.smith_body_calls.proofs.CallLemmas.{indirect_gives, indirect_none, indirect_there, indirect_without}
use Rattle.smith_body_nodes.proofs.OfferLemmas.{func_there}
use Rattle.smith_body_calls.proofs.calls.choose_indirect.Goals as goal

pub returns-in_default-clause-exact : goal.returns-in_default-clause-exact
returns-in_default-clause-exact c = indirect_none (where_stands c.args.scope.now c.args.draft.now) c.args.outcome c.args.u.now _
    c.in_default.ensures.exact

pub returns-in_default-choose_function_table-clause-exact : goal.returns-in_default-choose_function_table-clause-exact
returns-in_default-choose_function_table-clause-exact c = indirect_without (where_stands c.args.scope.now c.args.draft.now) c.args.outcome
    c.args.u.now _ _ c.in-Some.ty c.in-Some.ensures.exact c.in_default-choose_function_table.ensures.exact

pub returns-clause-exact : goal.returns-clause-exact
returns-clause-exact c =
    rw (c.in_ok-node.ensures.exact, c.as_slice.ensures, c.address.ensures, c.indirect_instr.ensures, c.dropped_of.ensures)
    (indirect_there (where_stands c.args.scope.now c.args.draft.now) c.args.outcome c.args.u.now _ _ c.in-Some.ty
    c.in-Some-choose_function_table.table c.in-Some-func_type_at.function.now _ c.in-Some.ensures.exact
    c.in-Some-choose_function_table.ensures.exact
    c.in-Some-choose_function_table.ensures.below c.in-Some-func_type_at.ensures)

pub returns-clause-offer : goal.returns-clause-offer
returns-clause-offer c = λ values left.
    let context = where_stands c.args.scope.now c.args.draft.now in
    let function = c.in-Some-func_type_at.function.now in
    let there = func_there context.types c.in-Some.ty function c.in-Some-func_type_at.ensures in
    rw (c.in_ok-node.ensures.exact, c.as_slice.ensures, c.address.ensures, c.indirect_instr.ensures, c.dropped_of.ensures)
    (indirect_gives context c.args.draft.now.set.items c.args.outcome function values c.in-Some-choose_function_table.table c.in-Some.ty _
    c.requires.scope.orderly c.requires.outcome (c.requires.scope.params_valid c.in-Some.ty function there)
    (c.requires.scope.results_valid c.in-Some.ty function there) c.in-Some.ensures.offered c.in-Some-choose_function_table.ensures.offered
    c.in-Some-func_type_at.ensures left)
