use Rattle.smith_draw_definitions.proofs.Common.{ap, Context, passed_on, Ref, sym}
use Rattle.smith_draw_consts.proofs.TriedStepLemmas.{choice_refused}
use Rattle.smith_draw_definitions.specs.Defined.{drawn_over, scope_of_spaces}
use Rattle.smith_draw_definitions.proofs.DefinedTableLemmas.{spaces_valid, needs_gc, table_is, table_lacks, table_fit}
use Rattle.smith_draw_definitions.proofs.DrawnStepLemmas.{drawn_refused}
use Rattle.smith_draw_definitions.proofs.tables.draw_initialised_table.Goals as goal

pub draw_table_init-requires-clause-standing : goal.draw_table_init-requires-clause-standing
draw_table_init-requires-clause-standing c = spaces_valid c.args.config.now c.args.spaces.now c.requires.may c.requires.imported_globals

pub draw_table_init-requires-clause-created : goal.draw_table_init-requires-clause-created
draw_table_init-requires-clause-created c = needs_gc c.args.config.now c.draw_table_type-table.result.element_type c.requires.may.sanitized
    c.draw_table_type-table.ensures.nullable

pub returns-in_err-initial-clause-refusal : goal.returns-in_err-initial-clause-refusal
returns-in_err-initial-clause-refusal c =
    passed_on _ c.from_residual.result c.in_err-initial.field-0.0 c.from_residual.ensures.1
    (drawn_refused c.args.config.now (drawn_over c.args.config.now (scope_of_spaces c.args.spaces.now))
    (Ref c.draw_table_type-table.result.element_type) _ (rw c.requires.standing at c.draw_table_type-table.ensures.grounded)
    c.in_err-initial.ensures.refusal)

pub returns-clause-exact : goal.returns-clause-exact
returns-clause-exact c = table_is c.args.config.now c.args.spaces.now _ _ _ _ _ c.requires.imported_globals
    (rw c.requires.standing at c.draw_table_type-table.ensures.draws.exact) c.in_ok-initial.ensures.exact

pub returns-clause-fit : goal.returns-clause-fit
returns-clause-fit c =
    table_fit c.args.config.now c.args.spaces.now _ _ c.requires.imported_globals
    (c.draw_table_type-table.ensures.valid c.args.spaces.now.types.now
    (sym (ap (λ (context : Context). context.types) c.requires.standing)) c.requires.may.valid) c.draw_table_type-table.ensures.within
    (rw c.requires.standing at c.draw_table_type-table.ensures.grounded) c.in_ok-initial.ensures.needed c.in_ok-initial.ensures.typed
    c.in_ok-initial.ensures.gc c.in_ok-initial.ensures.floats

pub returns-in_err-initial-clause-exact : goal.returns-in_err-initial-clause-exact
returns-in_err-initial-clause-exact c =
    choice_refused _ c.in_err-initial.field-0.0 _ c.from_residual.result c.in_err-initial.ensures.refusal
    (λ empty. table_lacks c.args.config.now c.args.spaces.now _ _ _ c.requires.imported_globals
    (rw c.requires.standing at c.draw_table_type-table.ensures.draws.exact) (c.in_err-initial.ensures.none empty))
    c.from_residual.ensures.1
