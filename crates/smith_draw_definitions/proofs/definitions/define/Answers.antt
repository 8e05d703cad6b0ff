use Rattle.smith_draw_definitions.proofs.Common.{AreKeptGrounds, features_of, function_context, inl, inr, passed_on, refl, refused_with}
use Rattle.smith_draw_definitions.proofs.Common.{spaces_in, subst, ℕ}
use Rattle.smith_draw_definitions.proofs.DrawnStepLemmas.{functions_noted, may_initialise, refused_before}
use Rattle.smith_draw_consts.proofs.TriedStepLemmas.{memory_open}
use Rattle.smith_draw_definitions.proofs.DefinitionStepLemmas.{tags_refused, funcs_refused, tables_not_drawn, globals_not_drawn}
use Rattle.smith_draw_definitions.proofs.DefinitionStepLemmas.{definitions_drawn}
use Rattle.smith_draw_definitions.proofs.DefinedGrowthLemmas.{defined_more, still_imported}
use Rattle.smith_draw_definitions.proofs.definitions.define.Goals as goal

pub returns-in_err-define_tags-clause-exact : goal.returns-in_err-define_tags-clause-exact
returns-in_err-define_tags-clause-exact c =
    refused_with {X = Unit {0}} (λ _. (c.define_tags.new.tags, c.define_tags.new.u)) _ c.in_err-define_tags.field-0.0 _ _
    c.from_residual.result c.in_err-define_tags.ensures.exact
    (λ refused. tags_refused c.args.config.now c.args.types.now.types (spaces_in c.args.spaces.now) c.args.definitions.now c.args.u.now
    refused) c.from_residual.ensures.1

pub returns-in_err-define_funcs-clause-exact : goal.returns-in_err-define_funcs-clause-exact
returns-in_err-define_funcs-clause-exact c =
    refused_with {X = Unit {0}} (λ _. (c.define_funcs.new.funcs, c.define_funcs.new.u)) _ c.in_err-define_funcs.field-0.0 _ _
    c.from_residual-in_err-define_funcs.result c.in_err-define_funcs.ensures.exact
    (λ refused. funcs_refused c.args.config.now c.args.types.now.types (spaces_in c.args.spaces.now) c.args.definitions.now c.args.u.now
    c.in_ok-define_tags.ensures.exact refused) c.from_residual-in_err-define_funcs.ensures.1

pub scope-drawn-requires : goal.scope-drawn-requires
scope-drawn-requires c =
    let scope = c.reference_scope-scope.ensures in
    rw (scope.types, scope.funcs, scope.imported_funcs, c.as_slice-func_types.ensures, c.len-funcs_before.ensures)
    (functions_noted c.args.config.now c.args.types.now.types (spaces_in c.args.spaces.now) c.args.definitions.now c.define_funcs.new.funcs
    _ _ c.in_ok-define_funcs.ensures.filled.extends c.requires.may.within.funcs
    (rw (c.as_slice-func_types.ensures, c.len-funcs_before.ensures) at c.note_defined.ensures) c.requires.kept)

pub define_tables-requires-clause-may : goal.define_tables-requires-clause-may
define_tables-requires-clause-may c =
    let over = c.reference_scope_of_imports-imported.ensures in
    rw (
      over.types,
      over.funcs,
      over.imported_funcs,
      over.globals,
      c.as_slice-func_types.ensures,
      c.as_slice-globals.ensures,
      c.len-funcs_before.ensures,
      c.len-globals_before.ensures,
      c.len-globals_defined.ensures,
    )
    (may_initialise _ _ _ _ _ c.requires.may (c.in_ok-define_funcs.ensures.valid c.requires.may.entities.funcs)
    c.in_ok-define_funcs.ensures.filled.within)

pub define_tables-requires-clause-standing : goal.define_tables-requires-clause-standing
define_tables-requires-clause-standing c =
    let over = c.reference_scope_of_imports-imported.ensures in
    let scope = c.reference_scope-scope.ensures in
    rw (over.types, over.funcs, over.imported_funcs) (rw (scope.types, scope.funcs, scope.imported_funcs) at c.scope-drawn.ensures)

pub define_globals-requires-clause-standing : goal.define_globals-requires-clause-standing
define_globals-requires-clause-standing c =
    let scope = c.reference_scope-scope.ensures in
    rw (scope.types, scope.funcs, scope.imported_funcs) at c.scope-drawn.ensures

pub returns-in_err-define_tables-clause-refusal : goal.returns-in_err-define_tables-clause-refusal
returns-in_err-define_tables-clause-refusal c =
    let over = c.reference_scope_of_imports-imported.ensures in
    passed_on _ c.from_residual-in_err-define_tables.result c.in_err-define_tables.field-0.0 c.from_residual-in_err-define_tables.ensures.1
    (refused_before c.args.config.now c.args.types.now.types (spaces_in c.args.spaces.now) c.args.definitions.now _ _
    c.in_ok-define_funcs.ensures.filled.extends
    (rw (over.types, over.funcs, over.imported_funcs, c.as_slice-func_types.ensures, c.len-funcs_before.ensures) at
    c.in_err-define_tables.ensures.refusal))

pub returns-in_err-define_memories-clause-left : goal.returns-in_err-define_memories-clause-left
returns-in_err-define_memories-clause-left c = λ whole h. c.define_memories.ensures.draws.left whole
    (c.define_tables.ensures.left whole (c.define_funcs.ensures.left whole (c.define_tags.ensures.left whole h)))

pub define_globals-requires-clause-may : goal.define_globals-requires-clause-may
define_globals-requires-clause-may c =
    rw (c.as_slice-func_types.ensures, c.len-funcs_before.ensures, c.len-globals_before.ensures, c.len-globals_defined.ensures)
    (may_initialise _ _ _ _ _ c.requires.may (c.in_ok-define_funcs.ensures.valid c.requires.may.entities.funcs)
    c.in_ok-define_funcs.ensures.filled.within)

pub returns-in_err-define_globals-clause-refusal : goal.returns-in_err-define_globals-clause-refusal
returns-in_err-define_globals-clause-refusal c =
    passed_on _ c.from_residual-in_err-define_globals.result c.in_err-define_globals.field-0.0
    c.from_residual-in_err-define_globals.ensures.1
    (refused_before c.args.config.now c.args.types.now.types (spaces_in c.args.spaces.now) c.args.definitions.now _ _
    c.in_ok-define_funcs.ensures.filled.extends
    (rw (c.as_slice-func_types.ensures, c.len-funcs_before.ensures) at c.in_err-define_globals.ensures.refusal))

pub returns-in_err-define_globals-clause-left : goal.returns-in_err-define_globals-clause-left
returns-in_err-define_globals-clause-left c = λ whole h. c.define_globals.ensures.left whole
    (c.define_memories.ensures.draws.left whole
    (c.define_tables.ensures.left whole (c.define_funcs.ensures.left whole (c.define_tags.ensures.left whole h))))

pub returns-clause-defined : goal.returns-clause-defined
returns-clause-defined c =
    let over = c.reference_scope_of_imports-imported.ensures in
    let entities = c.requires.may.entities in
    let counts = c.requires.may.counts in
    defined_more _ _ _ _ _ _ (record {
      filled = record {
        tags = c.in_ok-define_tags.ensures.filled;
        funcs = c.in_ok-define_funcs.ensures.filled;
        tables = c.in_ok-define_tables.ensures.filled;
        memories = c.in_ok-define_memories.ensures.filled;
        globals = c.in_ok-define_globals.ensures.filled;
        each_table = c.in_ok-define_tables.ensures.within;
        each_memory = c.in_ok-define_memories.ensures.within;
      };
      entities = record {
        tags = c.in_ok-define_tags.ensures.valid entities.tags;
        funcs = c.in_ok-define_funcs.ensures.valid entities.funcs;
        tables = rw over.types at c.in_ok-define_tables.ensures.valid entities.tables;
        memories = c.in_ok-define_memories.ensures.valid entities.memories;
        globals = c.in_ok-define_globals.ensures.valid;
      };
      counts = record {
        tags = c.in_ok-define_tags.ensures.enabled counts.tags;
        several_tables = c.in_ok-define_tables.ensures.several counts.several_tables;
        several_memories = c.in_ok-define_memories.ensures.several counts.several_memories;
      };
      tables = rw (
        over.types,
        over.funcs,
        over.imported_funcs,
        over.globals,
        c.as_slice-func_types.ensures,
        c.as_slice-globals.ensures,
        c.len-funcs_before.ensures,
        c.len-globals_before.ensures,
        c.len-globals_defined.ensures,
      ) at c.in_ok-define_tables.ensures.drawn;
      globals = rw (c.as_slice-func_types.ensures, c.len-funcs_before.ensures, c.len-globals_before.ensures, c.len-globals_defined.ensures)
          at c.in_ok-define_globals.ensures.defined;
      grounded = rw (c.as_slice-func_types.ensures, c.len-funcs_before.ensures) at c.in_ok-define_globals.ensures.grounded;
      num_tags = rw (c.len.ensures, c.len-tags_before.ensures) refl;
      num_funcs = rw (c.len-2.ensures, c.len-funcs_before.ensures) refl;
      num_memories = rw (c.len-3.ensures, c.len-memories_before.ensures) refl;
    })

pub returns-clause-kept : goal.returns-clause-kept
returns-clause-kept c =
    let config = c.args.config.now in
    let types = c.args.types.now.types in
    let extends = c.in_ok-define_funcs.ensures.filled.extends in
    let within = c.requires.may.within.funcs in
    subst (λ (imported : ℕ). AreKeptGrounds (function_context (features_of config) types c.define_funcs.new.funcs imported)
    c.note_defined.new.grounds)
    (still_imported (spaces_in c.args.spaces.now).funcs c.define_funcs.new.funcs c.args.definitions.now.num_funcs _ extends
    (rw (c.len-2.ensures, c.len-funcs_before.ensures) refl))
    (functions_noted config types (spaces_in c.args.spaces.now) c.args.definitions.now c.define_funcs.new.funcs _ _ extends within
    (rw (c.as_slice-func_types.ensures, c.len-funcs_before.ensures) at c.note_defined.ensures) c.requires.kept)

pub returns-clause-floats : goal.returns-clause-floats
returns-clause-floats c = λ off types before. record {
  globals = c.in_ok-define_globals.ensures.floats off before.globals;
  tables = c.in_ok-define_tables.ensures.floats (rw c.reference_scope_of_imports-imported.ensures.types types) before.tables;
  initials = c.in_ok-define_globals.ensures.constants off types before.initials;
}

pub returns-clause-left : goal.returns-clause-left
returns-clause-left c = λ whole h. c.define_globals.ensures.left whole
    (c.define_memories.ensures.draws.left whole
    (c.define_tables.ensures.left whole (c.define_funcs.ensures.left whole (c.define_tags.ensures.left whole h))))

pub returns-clause-exact : goal.returns-clause-exact
returns-clause-exact c =
    let over = c.reference_scope_of_imports-imported.ensures in
    let tables = rw (
      over.types,
      over.funcs,
      over.imported_funcs,
      over.globals,
      c.as_slice-func_types.ensures,
      c.as_slice-globals.ensures,
      c.len-funcs_before.ensures,
      c.len-globals_before.ensures,
      c.len-globals_defined.ensures,
    ) at c.in_ok-define_tables.ensures.exact in
    let globals = rw (
      c.as_slice-func_types.ensures,
      c.len-funcs_before.ensures,
      c.len-globals_before.ensures,
      c.len-globals_defined.ensures,
    ) at c.in_ok-define_globals.ensures.exact in
    rw (
      c.len.ensures,
      c.len-tags_before.ensures,
      c.len-2.ensures,
      c.len-funcs_before.ensures,
      c.len-3.ensures,
      c.len-memories_before.ensures,
    )
    (definitions_drawn c.args.config.now c.args.types.now.types (spaces_in c.args.spaces.now) c.args.definitions.now c.args.u.now
    c.in_ok-define_tags.ensures.exact c.in_ok-define_funcs.ensures.exact tables c.in_ok-define_memories.ensures.draws.exact globals)

pub returns-in_err-define_tags-clause-refusal : goal.returns-in_err-define_tags-clause-refusal
returns-in_err-define_tags-clause-refusal c = passed_on _ c.from_residual.result c.in_err-define_tags.field-0.0 c.from_residual.ensures.1
    (inl c.in_err-define_tags.ensures.refusal)

pub returns-in_err-define_tags-clause-left : goal.returns-in_err-define_tags-clause-left
returns-in_err-define_tags-clause-left c = c.define_tags.ensures.left

pub returns-in_err-define_funcs-clause-refusal : goal.returns-in_err-define_funcs-clause-refusal
returns-in_err-define_funcs-clause-refusal c = passed_on _ c.from_residual-in_err-define_funcs.result c.in_err-define_funcs.field-0.0
    c.from_residual-in_err-define_funcs.ensures.1 (inl c.in_err-define_funcs.ensures.refusal)

pub returns-in_err-define_funcs-clause-left : goal.returns-in_err-define_funcs-clause-left
returns-in_err-define_funcs-clause-left c = λ whole h. c.define_funcs.ensures.left whole (c.define_tags.ensures.left whole h)

pub returns-in_err-define_tables-clause-exact : goal.returns-in_err-define_tables-clause-exact
returns-in_err-define_tables-clause-exact c =
    let over = c.reference_scope_of_imports-imported.ensures in
    refused_with {X = Unit {0}} (λ _. ((c.define_tables.new.tables, c.define_tables.new.initials), c.define_tables.new.u)) _
    c.in_err-define_tables.field-0.0 _ _ c.from_residual-in_err-define_tables.result c.in_err-define_tables.ensures.exact
    (λ refused. tables_not_drawn c.args.config.now c.args.types.now.types (spaces_in c.args.spaces.now) c.args.definitions.now c.args.u.now
    c.in_ok-define_tags.ensures.exact c.in_ok-define_funcs.ensures.exact
    (rw (
      over.types,
      over.funcs,
      over.imported_funcs,
      over.globals,
      c.as_slice-func_types.ensures,
      c.as_slice-globals.ensures,
      c.len-funcs_before.ensures,
      c.len-globals_before.ensures,
      c.len-globals_defined.ensures,
    ) at refused))
    c.from_residual-in_err-define_tables.ensures.1

pub returns-in_err-define_tables-clause-left : goal.returns-in_err-define_tables-clause-left
returns-in_err-define_tables-clause-left c = λ whole h. c.define_tables.ensures.left whole
    (c.define_funcs.ensures.left whole (c.define_tags.ensures.left whole h))

pub returns-in_err-define_memories-clause-exact : goal.returns-in_err-define_memories-clause-exact
returns-in_err-define_memories-clause-exact c = memory_open _ _ _ c.from_residual-in_err-define_memories.result
    c.in_err-define_memories.ensures.draws.memory c.from_residual-in_err-define_memories.ensures.1

pub returns-in_err-define_memories-clause-refusal : goal.returns-in_err-define_memories-clause-refusal
returns-in_err-define_memories-clause-refusal c = passed_on _ c.from_residual-in_err-define_memories.result
    c.in_err-define_memories.field-0.0 c.from_residual-in_err-define_memories.ensures.1
    (inr (inl c.in_err-define_memories.ensures.draws.memory))

pub returns-in_err-define_globals-clause-exact : goal.returns-in_err-define_globals-clause-exact
returns-in_err-define_globals-clause-exact c =
    let over = c.reference_scope_of_imports-imported.ensures in
    refused_with {X = Unit {0}} (λ _. ((c.define_globals.new.globals, c.define_globals.new.initials), c.define_globals.new.u)) _
    c.in_err-define_globals.field-0.0 _ _ c.from_residual-in_err-define_globals.result c.in_err-define_globals.ensures.exact
    (λ refused. globals_not_drawn c.args.config.now c.args.types.now.types (spaces_in c.args.spaces.now) c.args.definitions.now c.args.u.now
    c.in_ok-define_tags.ensures.exact c.in_ok-define_funcs.ensures.exact
    (rw (
      over.types,
      over.funcs,
      over.imported_funcs,
      over.globals,
      c.as_slice-func_types.ensures,
      c.as_slice-globals.ensures,
      c.len-funcs_before.ensures,
      c.len-globals_before.ensures,
      c.len-globals_defined.ensures,
    ) at c.in_ok-define_tables.ensures.exact)
    c.in_ok-define_memories.ensures.draws.exact
    (rw (c.as_slice-func_types.ensures, c.len-funcs_before.ensures, c.len-globals_before.ensures, c.len-globals_defined.ensures) at
    refused))
    c.from_residual-in_err-define_globals.ensures.1
