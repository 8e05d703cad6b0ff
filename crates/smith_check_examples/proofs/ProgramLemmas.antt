-- Programs of the examples that are valid, but for one part of some.
use Rattle.std.proofs.Common.{◌≡◌, ◌∙◌, ◌<◌, ℕ, List, [], length, ap, arith, refl, rules, subst, sym}
use Rattle.std.proofs.lemmas.List.Elements.{All-cons, All-head, All-nil}
use Rattle.smith_types.specs.Syntax.composite_type.SubType.{SubType}
use Rattle.smith_types.specs.Syntax.entity_type.EntityType.{EntityType}
use Rattle.smith_types.specs.Syntax.entity_type.EntityType.TheVariants as entity
use Rattle.smith_types.specs.Syntax.entity_type.ExportKind.{ExportKind}
use Rattle.smith_types.specs.Syntax.entity_type.ExportKind.TheVariants as kind
use Rattle.smith_types.specs.Syntax.value_type.ValType.TheVariants.{Ref}
use Rattle.smith_types.specs.Entities.{IsFuncTypeIndex, IsMemoryValid}
use Rattle.smith_types.specs.ExampleFeatures.{usual_features}
use Rattle.smith_types.specs.Exports.{IsEntityAt}
use Rattle.smith_types.specs.Expressions.{seeing, seen_by_segments}
use Rattle.smith_types.specs.ExampleTypes.{nullable}
use Rattle.smith_types.specs.Groups.{space_of}
use Rattle.smith_types.specs.ValidTypes.{AreTypesValid}
use Rattle.smith_types.specs.Syntax.value_type.HeapType.TheVariants.{Concrete}
use Rattle.smith_decode.specs.Data.{Data}
use Rattle.smith_decode.specs.Modules.{Syntax}
use Rattle.smith_check_types.specs.Canonical.{AreCanonical}
use Rattle.smith_check_types.specs.TypeSections.{AreGroupsInScope, IsInScope, canonical_groups, canonical_index}
use Rattle.smith_check_module.specs.Contexts.{context_in, spaces_in, types_in}
use Rattle.smith_check_module.specs.ExampleSyntax.{nothing}
use Rattle.smith_check_module.specs.ValidModules.{AreSectionsValid, IsDataModeValid, IsElementValid}
use Rattle.smith_check.specs.Supertypes.{HaveOneSupertype}
use Rattle.smith_check.specs.ValidPrograms.{IsValidProgram}
use Rattle.smith_check.proofs.ExampleLemmas.{nothing_valid}
use Rattle.smith_check_examples.specs.ExampleSyntax.{copied_bytes, copied_functions, crossed_limits, exports, imported_memory}
use Rattle.smith_check_examples.specs.ExampleSyntax.{imports, passive_bytes, refers_to_a_later_group, small_memory}

-- an imported memory, and a passive segment, in a module that has nothing else
abbrev indices : List ℕ
indices = nothing_valid.indices

abbrev none : AreSectionsValid usual_features indices nothing
none = nothing_valid.sections

small_valid : IsMemoryValid usual_features small_memory
small_valid = search rules

memory_sections : AreSectionsValid usual_features indices imported_memory
memory_sections = record {
  entities = record {
    tags = none.entities.tags;
    funcs = none.entities.funcs;
    tables = none.entities.tables;
    memories = All-cons (IsMemoryValid usual_features) small_memory [] small_valid (All-nil _);
    globals = none.entities.globals;
  };
  counts = record {
    tags = none.counts.tags;
    several_tables = none.counts.several_tables;
    several_memories = λ some. absurd (omega (arith, some));
  };
  definitions = record { tables = none.definitions.tables; globals = none.definitions.globals };
  exports = record { stand = All-nil _; distinct = none.exports.distinct };
  start = none.start;
  segments = record { elements = All-nil _; datas = All-nil _ };
}

passive_sections : AreSectionsValid usual_features indices passive_bytes
passive_sections = record {
  entities = none.entities;
  counts = none.counts;
  definitions = record { tables = none.definitions.tables; globals = none.definitions.globals };
  exports = none.exports;
  start = none.start;
  segments = record {
    elements = none.segments.elements;
    datas = All-cons (λ (segment : Data). IsDataModeValid (seeing (context_in usual_features indices passive_bytes)
        (seen_by_segments (context_in usual_features indices passive_bytes))) indices (spaces_in indices passive_bytes) segment.mode) _ []
        refl (All-nil _);
  };
}

-- a module is valid if all its sections are, and it has neither types nor functions
with_sections : (m : Syntax) → HaveOneSupertype m.further_supertypes → m.types ≡ [] → m.functions ≡ [] → m.bodies ≡ []
    → AreSectionsValid usual_features indices m
    → IsValidProgram usual_features m
with_sections m supertypes untyped empty bodiless sections = record {
  supertypes = supertypes;
  scope = subst (AreGroupsInScope 0) (sym untyped) nothing_valid.scope;
  indices = indices;
  canonical = subst (λ (groups : List (List SubType)). AreCanonical groups indices) (sym untyped) nothing_valid.canonical;
  types = subst (λ (groups : List (List SubType)). AreTypesValid usual_features (space_of (canonical_groups indices groups))) (sym untyped)
      nothing_valid.types;
  sections = sections;
  bodies = ap length empty ∙ sym (ap length bodiless);
  functions = λ place inside. absurd (omega (arith, inside, ap length empty));
}

pub imported_memory_valid : IsValidProgram usual_features imported_memory
imported_memory_valid = with_sections imported_memory refl refl refl refl memory_sections

pub passive_valid : IsValidProgram usual_features passive_bytes
passive_valid = with_sections passive_bytes refl refl refl refl passive_sections

-- imports
pub no_function_type : IsValidProgram usual_features (imports (entity.Func 0)) → ⊥
no_function_type valid =
    let (function, (t, at, is)) = All-head (IsFuncTypeIndex (types_in valid.indices (imports (entity.Func 0))))
    (canonical_index valid.indices 0) [] valid.sections.entities.funcs in
    cc at

pub no_tag_type : IsValidProgram usual_features (imports (entity.Tag 0)) → ⊥
no_tag_type valid =
    let (function, (t, at, is)) = All-head (IsFuncTypeIndex (types_in valid.indices (imports (entity.Tag 0))))
    (canonical_index valid.indices 0) [] valid.sections.entities.tags in
    cc at

pub limits_crossed : IsValidProgram usual_features crossed_limits → ⊥
limits_crossed valid =
    let memory = All-head (IsMemoryValid usual_features) (record small_memory { minimum = 3 }) [] valid.sections.entities.memories in
    let (ordered, fits) = memory.limits.maximum_fits in
    omega (arith, ordered)

-- segments
pub no_memory : IsValidProgram usual_features copied_bytes → ⊥
no_memory valid =
    let context = context_in usual_features valid.indices copied_bytes in
    let (memory, at, offset) = All-head (λ (segment : Data). IsDataModeValid (seeing context (seen_by_segments context)) valid.indices
    (spaces_in valid.indices copied_bytes) segment.mode) _ [] valid.sections.segments.datas in
    cc at

pub no_table : IsValidProgram usual_features copied_functions → ⊥
no_table valid =
    let context = context_in usual_features valid.indices copied_functions in
    let segment = All-head (IsElementValid (seeing context (seen_by_segments context)) valid.indices
    (spaces_in valid.indices copied_functions)) _ [] valid.sections.segments.elements in
    cc segment.mode.stands

-- exports
pub no_tag : IsValidProgram usual_features (exports kind.Tag 0) → ⊥
no_tag valid =
    let (ty, (tag, at, is)) = All-head (λ (item : List ℕ × ExportKind × ℕ). (ty : EntityType) × IsEntityAt
    (spaces_in valid.indices (exports kind.Tag 0)) item.1 item.2 ty) ([], kind.Tag, 0) [] valid.sections.exports.stand in
    cc at

-- types
pub later_group : IsValidProgram usual_features refers_to_a_later_group → ⊥
later_group valid =
    let ((first, others), groups) = valid.scope in
    let inside = All-head (IsInScope 1) (Ref (nullable (Concrete 1))) [] first.values in
    omega (arith, inside)
