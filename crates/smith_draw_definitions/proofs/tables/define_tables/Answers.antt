use Rattle.smith_draw_definitions.proofs.Common.{features_of, IsTableValid, on_ok_weaker, returned_so}
use Rattle.smith_bytes.specs.declared.error.Count.TheVariants.{Tables}
use Rattle.smith_config.specs.EntityBounds.{IsTableWithin}
use Rattle.smith_draw_definitions.specs.Defined.{scope_of_spaces}
use Rattle.smith_draw_definitions.proofs.DefinedTableLemmas.{tables_fill, several_tables, tables_added, tables_all, tables_no_float}
use Rattle.smith_draw_definitions.proofs.DefinedTableLemmas.{no_table_taken}
use Rattle.smith_draw_definitions.proofs.tables.define_tables.Goals as goal

pub push_tables-pushed-requires-clause-kept : goal.push_tables-pushed-requires-clause-kept
push_tables-pushed-requires-clause-kept c = c.new-kept.ensures _

pub returns-clause-filled : goal.returns-clause-filled
returns-clause-filled c =
    returned_so c.push_tables-pushed.result (tables_fill c.args.config.now (scope_of_spaces c.args.spaces.now) _ _ _ _ _ _
    (c.requires.may.passes.ordered Tables tt)) c.push_tables-pushed.ensures.exact

pub returns-clause-several : goal.returns-clause-several
returns-clause-several c = λ stood.
    returned_so c.push_tables-pushed.result
    (λ exact. several_tables c.args.config.now _ _ c.requires.may.sanitized stood
    (tables_fill c.args.config.now (scope_of_spaces c.args.spaces.now) _ _ _ _ _ _ (c.requires.may.passes.ordered Tables tt) exact))
    c.push_tables-pushed.ensures.exact

pub returns-clause-valid : goal.returns-clause-valid
returns-clause-valid c = λ all.
    on_ok_weaker c.push_tables-pushed.result
    (λ drawn. tables_all (IsTableValid (features_of c.args.config.now) c.args.spaces.now.types.now.types) (λ one fit. fit.valid) drawn
    all) c.push_tables-pushed.ensures.drawn

pub returns-clause-within : goal.returns-clause-within
returns-clause-within c = on_ok_weaker c.push_tables-pushed.result (λ drawn. tables_added (IsTableWithin c.args.config.now)
    (λ one fit. fit.within) drawn) c.push_tables-pushed.ensures.drawn

pub returns-clause-floats : goal.returns-clause-floats
returns-clause-floats c = λ calm before. on_ok_weaker c.push_tables-pushed.result (tables_no_float calm before)
    c.push_tables-pushed.ensures.drawn

pub returns-clause-none : goal.returns-clause-none
returns-clause-none c = λ least none. returned_so c.push_tables-pushed.result
    (no_table_taken c.args.config.now (scope_of_spaces c.args.spaces.now) _ _ _ _ _ _ least none) c.push_tables-pushed.ensures.exact
