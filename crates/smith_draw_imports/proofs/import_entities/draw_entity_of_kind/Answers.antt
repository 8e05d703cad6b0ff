use Rattle.smith_draw_imports.proofs.Common.{[], All-cons, All-nil, ap, length, refl, sym}
use Rattle.std.proofs.Common.{nat_lt}
use Rattle.std.proofs.lemmas.Bool.{ltb-true}
use Rattle.smith_types.specs.Expressions.{Context}
use Rattle.smith_draw_types.specs.TypeUses.{types_for}
use Rattle.smith_draw_types.specs.declared.type_use.TypeUse.TheVariants.{Tag}
use Rattle.smith_draw_types.proofs.CallerLemmas.{passes_but_imports}
use Rattle.smith_config.specs.Granted.{HasGroundedElements, HasGroundedValue}
use Rattle.smith_draw_imports.specs.Imported.{spaces_of}
use Rattle.smith_draw_imports.specs.ImportedEntities.{import_scope}
use Rattle.smith_draw_imports.proofs.ImportedEntityLemmas.{first_holds, second_holds, fit_without_references, tag_fit, func_fit, global_fit}
use Rattle.smith_draw_imports.proofs.ImportedEntityLemmas.{memory_fit, table_fit}
use Rattle.smith_draw_imports.proofs.import_entities.draw_entity_of_kind.Goals as goal

pub returns-in-Tag-clause-fit : goal.returns-in-Tag-clause-fit
returns-in-Tag-clause-fit c =
    let types = c.args.types.now.types in
    let offered = rw c.in-Tag.is at c.requires.kind in
    fit_without_references c.args.config.now c.args.types.now.types (spaces_of c.args.imported.now) _
    (tag_fit c.args.config.now c.args.types.now c.requires.may c.choose_type.result (first_holds c.args.config.now.exceptions_enabled
    (nat_lt 0 (length (types_for Tag types))) offered) c.choose_type.ensures.usable) refl refl

pub choose_type-requires : goal.choose_type-requires
choose_type-requires c =
    let offered = rw c.in-Tag.is at c.requires.kind in
    record {
      some = ltb-true _ _ (second_holds c.args.config.now.exceptions_enabled
          (nat_lt 0 (length (types_for Tag c.args.types.now.types))) offered);
    }

pub returns-in-Func-clause-fit : goal.returns-in-Func-clause-fit
returns-in-Func-clause-fit c =
    fit_without_references c.args.config.now c.args.types.now.types (spaces_of c.args.imported.now) _
    (func_fit c.args.config.now c.args.types.now c.requires.may c.choose_type-in-Func.result c.choose_type-in-Func.ensures.usable) refl
    refl

pub returns-in-Global-clause-fit : goal.returns-in-Global-clause-fit
returns-in-Global-clause-fit c =
    let standing = c.reference_scope_after-standing.ensures in
    let valid = c.draw_global_type.ensures.valid c.args.types.now (sym (ap (λ (context : Context). context.types) standing))
    c.requires.may.valid in
    let Elements = HasGroundedElements c.args.config.now (import_scope c.args.config.now c.args.types.now.types
    (spaces_of c.args.imported.now)) in
    let Values = HasGroundedValue c.args.config.now (import_scope c.args.config.now c.args.types.now.types (spaces_of c.args.imported.now))
    in
    record {
      entity = global_fit c.args.config.now c.args.types.now c.requires.may _ valid c.draw_global_type.ensures.floats;
      grounded_tables = All-nil Elements;
      grounded_globals = All-cons Values _ [] (rw standing at c.draw_global_type.ensures.grounded) (All-nil Values);
    }

pub returns-in_ok-arbitrary_memtype-in-Memory-clause-fit : goal.returns-in_ok-arbitrary_memtype-in-Memory-clause-fit
returns-in_ok-arbitrary_memtype-in-Memory-clause-fit c =
    fit_without_references c.args.config.now c.args.types.now.types (spaces_of c.args.imported.now) _
    (memory_fit c.args.config.now c.args.types.now c.requires.may _ (c.in_ok-arbitrary_memtype-in-Memory.ensures.valid
    (passes_but_imports c.args.config.now c.requires.may.passes)) c.in_ok-arbitrary_memtype-in-Memory.ensures.within) refl refl

pub returns-in-Table-clause-fit : goal.returns-in-Table-clause-fit
returns-in-Table-clause-fit c =
    let Elements = HasGroundedElements c.args.config.now (import_scope c.args.config.now c.args.types.now.types
    (spaces_of c.args.imported.now)) in
    let Values = HasGroundedValue c.args.config.now (import_scope c.args.config.now c.args.types.now.types (spaces_of c.args.imported.now))
    in
    let standing = c.reference_scope_after-standing.ensures in
    record {
      entity = table_fit c.args.config.now c.args.types.now c.requires.may _ (c.draw_table_type.ensures.valid c.args.types.now
          (sym (ap (λ (context : Context). context.types) standing)) c.requires.may.valid) c.draw_table_type.ensures.within;
      grounded_tables = All-cons Elements _ [] (rw standing at c.draw_table_type.ensures.grounded) (All-nil Elements);
      grounded_globals = All-nil Values;
    }
