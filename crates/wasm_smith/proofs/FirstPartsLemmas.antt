-- The first parts of a module: imports of a shape are valid and within the bounds, and the results
-- of steps.
use Rattle.wasm_smith.proofs.Common.{[], AddsLimitsOf, All, All-weaker, ap, AreNumbersWithin, AreShapesValid, AreTypesValid, arith, Bool}
use Rattle.wasm_smith.proofs.Common.{Config, Contains, Contains-append_left, Count, count_in, EntitySpaces, EntityType, Err, Error, false}
use Rattle.wasm_smith.proofs.Common.{features_of, GroupedTypes, HasRoom, IfSome, Import, imported_spaces, inl, inr, is_memory, IsErrAnd}
use Rattle.wasm_smith.proofs.Common.{IsSanitized, IsShapeValid, IsTrue, items_of_exports, items_of_module_shape, length, length-append}
use Rattle.wasm_smith.proofs.Common.{List, None, nothing_defined, Option, refl, Result, Returns, Shape, shape_for, shape_imports}
use Rattle.wasm_smith.proofs.Common.{shape_spaces, shape_types, Some, space_of, StandsAfter, subst, sym, then_with, true, ℕ, ◌++◌, ◌+◌, ◌<◌}
use Rattle.wasm_smith.proofs.Common.{◌^◌, ◌∷◌, ◌≡◌, ◌≤◌, ◌⊎◌}
use Rattle.std.proofs.Common.{append-nil, lt-ltb}
use Rattle.smith_bytes.specs.declared.error.Count.TheVariants as counts
use Rattle.smith_bytes.specs.declared.error.Which.TheVariants.{AvailableImports, ModuleShape}
use Rattle.smith_types.specs.Entities.{AreEntitiesValid, AreCountsEnabled}
use Rattle.smith_types.specs.Imports.{Defines, func_of, global_of, imported, memory_of, table_of, tag_of}
use Rattle.smith_types.specs.Syntax.entity_type.EntityType.TheVariants as entity
use Rattle.smith_draw_definitions.specs.Required.{MayDefineMore}
use Rattle.smith_draw_definitions.proofs.RequiredExportsLoop.{refused_by}

-- there are no more of one kind than imports
none_more : {A : Type 0} (of_kind : EntityType → List A) → ((one : EntityType) → length (of_kind one) ≤ 1) → (imports : List Import)
    → length (imported of_kind imports) ≤ length imports
none_more of_kind one [] = omega arith
none_more of_kind one (first ∷ more) =
    let all = length-append (of_kind first.entity_type) (imported of_kind more) in
    let here = one first.entity_type in
    let later = none_more of_kind one more in
    omega (arith, all, here, later)

one_tag : (one : EntityType) → length (tag_of one) ≤ 1
one_tag (entity.Tag index) = omega arith
one_tag _ = omega arith

one_func : (one : EntityType) → length (func_of one) ≤ 1
one_func (entity.Func index) = omega arith
one_func _ = omega arith

one_table : (one : EntityType) → length (table_of one) ≤ 1
one_table (entity.Table table) = omega arith
one_table _ = omega arith

one_memory : (one : EntityType) → length (memory_of one) ≤ 1
one_memory (entity.Memory memory) = omega arith
one_memory _ = omega arith

one_global : (one : EntityType) → length (global_of one) ≤ 1
one_global (entity.Global global) = omega arith
one_global _ = omega arith

-- imports leave room for a number of further ones
pub imported_room : (imports : List Import) (more : ℕ) → length imports + more < 2 ^ 32 → HasRoom (imported_spaces imports) more
imported_room imports more few =
    let tags = none_more tag_of one_tag imports in
    let funcs = none_more func_of one_func imports in
    let tables = none_more table_of one_table imports in
    let memories = none_more memory_of one_memory imports in
    let globals = none_more global_of one_global imports in
    record {
      tags = omega (arith, few, tags);
      funcs = omega (arith, few, funcs);
      tables = omega (arith, few, tables);
      memories = omega (arith, few, memories);
      globals = omega (arith, few, globals);
    }

-- nothing is defined after the imports
defines_none : {A : Type 0} (xs : List A) → Defines xs 0 xs
defines_none xs = record { defined = []; count_is = refl; parts = sym (append-nil xs) }

pub stands_alone : (config : Config) (space : GroupedTypes) (spaces : EntitySpaces) → AreTypesValid (features_of config) space
    → AreEntitiesValid (features_of config) space.types spaces → AreCountsEnabled (features_of config) spaces
    → StandsAfter config spaces space spaces nothing_defined
stands_alone config space spaces types entities counts = record {
  types = types;
  entities = entities;
  counts = counts;
  tags = defines_none spaces.tags;
  funcs = defines_none spaces.funcs;
  tables = defines_none spaces.tables;
  memories = defines_none spaces.memories;
  globals = defines_none spaces.globals;
  each_table = λ place initial at. absurd cc;
  each_global = λ place index initial at. absurd cc;
}

-- the exports of a module shape may be defined after its imports
pub may_begin : (config : Config) (shape : Shape) → IsSanitized config → IsShapeValid ModuleShape config shape
    → AreEntitiesValid (features_of config) (shape_types shape) (imported_spaces (shape_imports shape))
    → MayDefineMore config (space_of shape.groups) (imported_spaces (shape_imports shape)) nothing_defined (length shape.exports)
may_begin config shape sanitized valid entities = record {
  sanitized = sanitized;
  valid = valid.consistent.types;
  entities = entities;
  within = record { tags = omega arith; funcs = omega arith; memories = omega arith; globals = omega arith };
  room = imported_room (shape_imports shape) (length shape.exports) (omega (arith, valid.short.imports, valid.short.exports));
}

-- a module shape adds as many of a kind as it imports and exports
pub items_of_one_shape : (count : Count) (shape : Shape) → (count ≡ counts.Types → ⊥) → (count ≡ counts.Imports → ⊥)
    → count_in (imported_spaces (shape_imports shape)) count + items_of_exports count shape ≡ items_of_module_shape count shape
items_of_one_shape counts.Types shape types imports = absurd (types refl)
items_of_one_shape counts.Imports shape types imports = absurd (imports refl)
items_of_one_shape counts.Tags shape types imports = refl
items_of_one_shape counts.Funcs shape types imports = refl
items_of_one_shape counts.Tables shape types imports = refl
items_of_one_shape counts.Memories shape types imports = refl
items_of_one_shape counts.Globals shape types imports = refl
items_of_one_shape counts.Exports shape types imports = refl
items_of_one_shape counts.ElementSegments shape types imports = refl
items_of_one_shape counts.Elements shape types imports = refl
items_of_one_shape counts.DataSegments shape types imports = refl

of_one : {A : Type 0} (before more all : List A) → All (λ x. Contains before x ⊎ Contains (before ++ more) x) all
    → All (Contains (before ++ more)) all
of_one {A = A} before more all h =
    All-weaker (λ x. Contains before x ⊎ Contains (before ++ more) x) (Contains (before ++ more))
    (λ x given. elim given [
      | inl first ↦ Contains-append_left before more x first
      | inr one ↦ one
    ]) all h

-- the tables, memories and globals that a module shape adds are its own
pub tables_of_shape : (shape : Shape) (spaces : EntitySpaces) → AddsLimitsOf shape (imported_spaces (shape_imports shape)) spaces
    → All (Contains (shape_spaces shape).tables) spaces.tables
tables_of_shape shape spaces added = of_one (imported_spaces (shape_imports shape)).tables shape.tables spaces.tables added.tables

pub memories_of_shape : (shape : Shape) (spaces : EntitySpaces) → AddsLimitsOf shape (imported_spaces (shape_imports shape)) spaces
    → All (Contains (shape_spaces shape).memories) spaces.memories
memories_of_shape shape spaces added = of_one (imported_spaces (shape_imports shape)).memories shape.memories spaces.memories added.memories

pub globals_of_shape : (shape : Shape) (spaces : EntitySpaces) → AddsLimitsOf shape (imported_spaces (shape_imports shape)) spaces
    → All (Contains (shape_spaces shape).globals) spaces.globals
globals_of_shape shape spaces added = of_one (imported_spaces (shape_imports shape)).globals shape.globals spaces.globals added.globals

-- the result of a refusal is that refusal
pub refused_with : {X Y A B : Type 0} (f : A → B) (of_part : X → A × List ℕ) (of_whole : Y → B × List ℕ) (e : Error)
    (part : Result (A × List ℕ) Error) (result : Result Y Error) → Returns is_memory of_part (Err e) part → IsErrAnd result (λ y. y ≡ e)
    → Returns is_memory of_whole result (then_with f part)
refused_with f of_part of_whole e part result given passed = refused_by of_part of_whole e part (then_with f part) result given
    (λ one is. ap (then_with f) is) passed

several_by : (on : Bool) (most n : ℕ) → (on ≡ false → most ≤ 1) → n ≤ most → 1 < n → on ≡ true
several_by true most n one within several = refl
several_by false most n one within several = absurd (omega (arith, one refl))

-- if there are no more tables and memories than allowed, there are several only if that is enabled
pub taken_enabled : (config : Config) (spaces : EntitySpaces) → IsSanitized config → AreNumbersWithin config spaces
    → (0 < length spaces.tags → IsTrue config.exceptions_enabled) → AreCountsEnabled (features_of config) spaces
taken_enabled config spaces sanitized within tags = record {
  tags = tags;
  several_tables = λ some. several_by config.reference_types_enabled config.max_tables (length spaces.tables) sanitized.one_table
      within.tables some;
  several_memories = λ some. lt-ltb 1 config.max_memories (omega (arith, within.memories, some));
}

-- items taken from the offered ones are among the offered and the defined ones
pub offered_all : {A : Type 0} (offered defined taken : List A) → All (Contains offered) taken → All (Contains (offered ++ defined)) taken
offered_all offered defined taken h = All-weaker (Contains offered) (Contains (offered ++ defined))
    (λ x one. Contains-append_left offered defined x one) taken h

-- a module shape is used if there is one, available imports if there is none
pub module_used : (config : Config) (shape : Shape) → config.module_shape ≡ Some shape → AreShapesValid config
    → IsShapeValid ModuleShape config shape
module_used config shape given valid =
    let used : shape_for config ModuleShape ≡ Some shape = rw given refl in
    subst (λ (one : Option Shape). IfSome one (λ each. IsShapeValid ModuleShape config each)) used (valid ModuleShape)

pub imports_used : (config : Config) (shape : Shape) → config.module_shape ≡ None → config.available_imports ≡ Some shape
    → AreShapesValid config → IsShapeValid AvailableImports config shape
imports_used config shape none given valid =
    let used : shape_for config AvailableImports ≡ Some shape = rw (none, given) refl in
    subst (λ (one : Option Shape). IfSome one (λ each. IsShapeValid AvailableImports config each)) used (valid AvailableImports)
