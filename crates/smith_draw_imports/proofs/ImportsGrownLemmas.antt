-- Imports, and one more import.
use Rattle.smith_draw_imports.proofs.Common.{[], All-cons, All-nil, ap, arith, Bool, Config, EntitySpaces, EntityType, ExportKind, false}
use Rattle.smith_draw_imports.proofs.Common.{flattened, Import, import_of, Imports, imports_of, length, length-append, List, refl, subst}
use Rattle.smith_draw_imports.proofs.Common.{SubType, sym, true, ℕ, ◌++◌, ◌+◌, ◌<◌, ◌∙◌, ◌∷◌, ◌≡◌, ◌≤◌}
use Rattle.std.proofs.Common.{◌*◌, ◌⊎◌}
use Rattle.std.proofs.Common.{BuildHasherDefault, FoldHasher, Global, inl, inr, ltb, String}
use Rattle.std.specs.Prelude.{slice_get, IsTrue, Some, map, All}
use Rattle.std.specs.Str.{bytes_eq}
use Rattle.std.specs.HashSet.{HashSet}
use Rattle.std.proofs.lemmas.List.{append-nil, map-append}
use Rattle.std.proofs.lemmas.List.Elements.{All-append, All-weaker}
use Rattle.std.proofs.lemmas.List.Sums.{sum_by-append}
use Rattle.std.proofs.lemmas.Grind.{flat_map-append}
use Rattle.std.proofs.lemmas.Bool.{ltb-true, ltb-false}
use Rattle.std.proofs.lemmas.Map.Keys.{any_passes_from_place}
use Rattle.std.proofs.lemmas.Slice.Eq.{bytes_eq-Decides}
use Rattle.smith_types.specs.Entities.{AreEntitiesValid, IsTagValid, IsFuncTypeIndex, IsTableValid, IsMemoryValid, IsGlobalValid}
use Rattle.smith_types.specs.Exports.{entity_kind}
use Rattle.smith_types.specs.Syntax.Features.{Features}
use Rattle.smith_types.specs.Grown.{AreImportsGrown}
use Rattle.smith_types.specs.Expressions.{Context}
use Rattle.smith_types.specs.Syntax.entity_type.GlobalType.{GlobalType}
use Rattle.smith_types.specs.Syntax.entity_type.TableType.{TableType}
use Rattle.smith_types.specs.Syntax.value_type.ValType.{ValType}
use Rattle.smith_types.specs.Syntax.value_type.ValType.TheVariants as vals
use Rattle.smith_types.proofs.GroundGrowthLemmas.{imports_grounded}
use Rattle.smith_types.specs.Imports.{imported, imported_spaces, IsImportsValid, tag_of}
use Rattle.smith_types.specs.Imports.{func_of, table_of, memory_of, global_of, entity_spaces}
use Rattle.smith_types.specs.EntitySpaces.{with_entity}
use Rattle.smith_types.specs.Sizes.{size_in}
use Rattle.smith_types.specs.Syntax.entity_type.EntityType.TheVariants as entity
use Rattle.smith_types.specs.Syntax.entity_type.ExportKind.TheVariants as kind
use Rattle.smith_types.specs.Syntax.imports.ImportItem.{ImportItem}
use Rattle.smith_types.specs.Syntax.imports.Imports.TheVariants.{Single, Compact1, Compact2}
use Rattle.smith_types.proofs.ListLemmas.{mapped_at}
use Rattle.smith_config.specs.Features.{features_of}
use Rattle.smith_config.specs.EntityBounds.{IsTableWithin, IsMemoryWithin}
use Rattle.smith_config.specs.Granted.{IsUngrounded}
use Rattle.smith_draw_imports.specs.ImportNames.{has_names, is_taken, KnowsPairs}
use Rattle.smith_draw_imports.specs.ImportedEntities.{has_room, import_scope, sizes}
use Rattle.smith_draw_imports.specs.Importing.{module_name, with_import}
use Rattle.smith_draw_imports.specs.Imported.{Counts, AreImportsCounted, AreNumbersWithin, AreSpacesWithin, AreImportsFit, IsEntityFit}
use Rattle.smith_draw_imports.specs.Imported.{IsFitBeside, IsNext, IsOpen, IsOfGroup, IsCompact, IsImported, MayEnd, MayEndAt, spaces_of}
use Rattle.smith_types.specs.Floats.{HasNoFloatValue}
use Rattle.smith_types.proofs.DistinctLemmas.{distinct_push}
use Rattle.smith_draw_imports.specs.declared.imports_so_far.Imported.{Imported}

-- the imports of a kind, with one more import
pub imported_more : {A : Type 0} (of_kind : EntityType → List A) (imports : List Import) (one : Import)
    → imported of_kind (imports ++ one ∷ []) ≡ imported of_kind imports ++ of_kind one.entity_type
imported_more of_kind imports one = flat_map-append (λ (each : Import). of_kind each.entity_type) imports (one ∷ [])
    ∙ ap (λ xs. imported of_kind imports ++ xs) (append-nil (of_kind one.entity_type))

-- one index space after another
abbrev pub joined : EntitySpaces → EntitySpaces → EntitySpaces
joined a b = record {
  tags = a.tags ++ b.tags;
  funcs = a.funcs ++ b.funcs;
  tables = a.tables ++ b.tables;
  memories = a.memories ++ b.memories;
  globals = a.globals ++ b.globals;
}

pub spaces_more : (imports : List Import) (one : Import) → imported_spaces (imports ++ one ∷ []) ≡ joined (imported_spaces imports)
    (entity_spaces one.entity_type)
spaces_more imports one = rw (
  imported_more tag_of imports one,
  imported_more func_of imports one,
  imported_more table_of imports one,
  imported_more memory_of imports one,
  imported_more global_of imports one,
) refl

pub sizes_more : (types : List SubType) (imports : List Import) (one : Import) → sizes types (imports ++ one ∷ []) ≡ sizes types imports +
    (size_in types one.entity_type + 1)
sizes_more types imports one = let parts = sum_by-append (λ (each : Import). size_in types each.entity_type + 1) imports (one ∷ []) in
    omega (arith, parts)

entities_more : (features : Features) (types : List SubType) (a b : EntitySpaces) → AreEntitiesValid features types a
    → AreEntitiesValid features types b → AreEntitiesValid features types (joined a b)
entities_more features types a b old new = record {
  tags = All-append (IsTagValid types) a.tags b.tags old.tags new.tags;
  funcs = All-append (IsFuncTypeIndex types) a.funcs b.funcs old.funcs new.funcs;
  tables = All-append (IsTableValid features types) a.tables b.tables old.tables new.tables;
  memories = All-append (IsMemoryValid features) a.memories b.memories old.memories new.memories;
  globals = All-append (IsGlobalValid features types) a.globals b.globals old.globals new.globals;
}

-- one more entity, if there is room
pushed : {A : Type 0} (xs : List A) (x : A) (most : ℕ) → ltb (length xs) most ≡ true → length (xs ++ x ∷ []) ≤ most
pushed xs x most room = let lt = ltb-true (length xs) most room in omega (arith, length-append xs (x ∷ []))

same : {A : Type 0} (xs : List A) (most : ℕ) → length xs ≤ most → length (xs ++ []) ≤ most
same xs most le = rw append-nil le

pub numbers_more : (config : Config) (spaces : EntitySpaces) (one : EntityType) → AreNumbersWithin config spaces
    → has_room config spaces (entity_kind one) ≡ true → AreNumbersWithin config (joined spaces (entity_spaces one))
numbers_more config spaces (entity.Tag x) w room = record {
  tags = pushed spaces.tags x _ room;
  funcs = same _ _ w.funcs;
  tables = same _ _ w.tables;
  memories = same _ _ w.memories;
  globals = same _ _ w.globals;
}
numbers_more config spaces (entity.Func x) w room = record {
  tags = same _ _ w.tags;
  funcs = pushed spaces.funcs x _ room;
  tables = same _ _ w.tables;
  memories = same _ _ w.memories;
  globals = same _ _ w.globals;
}
numbers_more config spaces (entity.Table x) w room =
    record {
      tags = same _ _ w.tags;
      funcs = same _ _ w.funcs;
      tables = pushed spaces.tables x _ room;
      memories = same _ _ w.memories;
      globals = same _ _ w.globals;
    }
numbers_more config spaces (entity.Memory x) w room = record {
  tags = same _ _ w.tags;
  funcs = same _ _ w.funcs;
  tables = same _ _ w.tables;
  memories = pushed spaces.memories x _ room;
  globals = same _ _ w.globals;
}
numbers_more config spaces (entity.Global x) w room = record {
  tags = same _ _ w.tags;
  funcs = same _ _ w.funcs;
  tables = same _ _ w.tables;
  memories = same _ _ w.memories;
  globals = pushed spaces.globals x _ room;
}

within_more : (config : Config) (types : List SubType) (spaces : EntitySpaces) (one : EntityType) → AreSpacesWithin config spaces
    → IsEntityFit config types one → has_room config spaces (entity_kind one) ≡ true
    → AreSpacesWithin config (joined spaces (entity_spaces one))
within_more config types spaces one w fit room =
    let old : AreNumbersWithin config spaces = record {
      tags = w.tags;
      funcs = w.funcs;
      tables = w.tables;
      memories = w.memories;
      globals = w.globals;
    } in
    let numbers = numbers_more config spaces one old room in
    record {
      tags = numbers.tags;
      funcs = numbers.funcs;
      tables = numbers.tables;
      memories = numbers.memories;
      globals = numbers.globals;
      each_table = All-append (IsTableWithin config) spaces.tables (table_of one) w.each_table fit.tables;
      each_memory = All-append (IsMemoryWithin config) spaces.memories (memory_of one) w.each_memory fit.memories;
    }

some_or : {A : Type 0} (xs ys : List A) → 0 < length (xs ++ ys) → (0 < length xs) ⊎ (0 < length ys)
some_or [] ys some = inr some
some_or (x ∷ xs) ys some = inl (omega arith)

pub tags_on : (config : Config) (xs ys : List ℕ) → (0 < length xs → IsTrue config.exceptions_enabled)
    → (0 < length ys → IsTrue config.exceptions_enabled) → 0 < length (xs ++ ys) → IsTrue config.exceptions_enabled
tags_on config xs ys old new some = elim (some_or xs ys some) [ inl first ↦ old first | inr second ↦ new second ]

-- pairs of names
abbrev pub pair_of : Import → List ℕ × List ℕ
pair_of one = (one.«module», one.name)

not_there : (imports : List Import) (one : Import) → is_taken imports one.«module» one.name ≡ false → (i : ℕ)
    → slice_get (map pair_of imports) i ≡ Some (pair_of one) → ⊥
not_there imports one fresh i there =
    let (other, at, alike) = mapped_at imports i (pair_of one) there in
    let from : bytes_eq one.«module» other.«module» ≡ true = (bytes_eq-Decides one.«module» other.«module»).1
    (sym (ap (λ (p : List ℕ × List ℕ). p.0) alike)) in
    let name : bytes_eq one.name other.name ≡ true = (bytes_eq-Decides one.name other.name).1
    (sym (ap (λ (p : List ℕ × List ℕ). p.1) alike)) in
    let taken : is_taken imports one.«module» one.name ≡ true = any_passes_from_place (has_names one.«module» one.name) imports i other at
    (rw (from, name) refl) in
    absurd (cc (sym fresh ∙ taken))

-- a reference that is not grounded was not grounded before functions were imported
pub ungrounded_imported : (config : Config) (old new : Context) → AreImportsGrown old new → (value : ValType)
    → IsUngrounded config new value → IsUngrounded config old value
ungrounded_imported config old new growth (vals.Ref reference) (not_null, none) =
    (not_null, λ on grounded. none on (imports_grounded old new reference.heap_type growth grounded))
ungrounded_imported config old new growth vals.I32 never = never
ungrounded_imported config old new growth vals.I64 never = never
ungrounded_imported config old new growth vals.F32 never = never
ungrounded_imported config old new growth vals.F64 never = never
ungrounded_imported config old new growth vals.V128 never = never

-- grounded elements and values stay grounded as functions are imported
module _ (config : Config) {A : Type 0} (value_of : A → ValType) where
  abbrev IsFilled : Context → A → Type 0
  IsFilled context item = ¬ IsUngrounded config context (value_of item)

  grounded_later : (types : List SubType) (old new : EntitySpaces) (more : List ℕ) → new.funcs ≡ old.funcs ++ more → (items : List A)
      → All (IsFilled (import_scope config types old)) items → All (IsFilled (import_scope config types new)) items
  grounded_later types old new more grown items h =
      let before = import_scope config types old in
      let after = import_scope config types new in
      let growth : AreImportsGrown before after = record {
        features = refl;
        types = record { more = []; parts = sym (append-nil types) };
        funcs = record { more = more; parts = grown };
        imported = refl;
        still_imported = refl;
      } in
      All-weaker (IsFilled before) (IsFilled after)
      (λ item grounded lacks. grounded (ungrounded_imported config before after growth (value_of item) lacks)) items h

  grounded_more : (of_kind : EntityType → List A) (types : List SubType) (imports : List Import) (one : Import) → let scope =
      import_scope config types (imported_spaces imports) in
      All (IsFilled scope) (imported of_kind imports) → All (IsFilled scope) (of_kind one.entity_type)
      → All (IsFilled (import_scope config types (imported_spaces (imports ++ one ∷ [])))) (imported of_kind (imports ++ one ∷ []))
  grounded_more of_kind types imports one before next =
      let new = imported_spaces (imports ++ one ∷ []) in
      let Filled = IsFilled (import_scope config types new) in
      let later = grounded_later types (imported_spaces imports) new (func_of one.entity_type) (imported_more func_of imports one) in
      subst (All Filled) (sym (imported_more of_kind imports one))
      (All-append Filled (imported of_kind imports) (of_kind one.entity_type) (later (imported of_kind imports) before)
      (later (of_kind one.entity_type) next))

-- the references of a table, and the value of a global
abbrev elements_of : TableType → ValType
elements_of table = vals.Ref table.element_type

abbrev value_in : GlobalType → ValType
value_in global = global.val_type

pub fit_more : (config : Config) (types : List SubType) (distinct : Bool) (imports : List Import) (one : Import)
    → AreImportsFit config types distinct imports → IsNext config types (imported_spaces imports) (sizes types imports) one.entity_type
    → length imports < config.max_imports
    → (IsTrue distinct → is_taken imports one.«module» one.name ≡ false) → AreImportsFit config types distinct (imports ++ one ∷ [])
fit_more config types distinct imports one fit next room fresh =
    let more = sizes_more types imports one in
    let longer = length-append imports (one ∷ []) in
    let spaces = spaces_more imports one in
    record {
      entities = rw spaces (entities_more (features_of config) types (imported_spaces imports) (entity_spaces one.entity_type) fit.entities
          next.fit.entity.valid);
      tags = rw (imported_more tag_of imports one) (tags_on config (imported tag_of imports) (tag_of one.entity_type) fit.tags
          next.fit.entity.tag);
      within = rw spaces (within_more config types (imported_spaces imports) one.entity_type fit.within next.fit.entity next.room);
      most = omega (arith, longer);
      type_size = omega (arith, more, next.fits);
      small = omega (arith, more, longer, next.fit.entity.small, fit.small);
      grounded_tables = grounded_more config elements_of table_of types imports one fit.grounded_tables next.fit.grounded_tables;
      grounded_globals = grounded_more config value_in global_of types imports one fit.grounded_globals next.fit.grounded_globals;
      floats = λ off. rw (imported_more global_of imports one) (All-append HasNoFloatValue (imported global_of imports)
          (global_of one.entity_type) (fit.floats off) (next.fit.entity.floats off));
      apart = λ on. rw map-append (distinct_push (map pair_of imports) (pair_of one) (fit.apart on) (not_there imports one (fresh on)));
    }

-- an entity after index spaces
entity_after : (spaces : EntitySpaces) (added : EntityType) → with_entity spaces added ≡ joined spaces (entity_spaces added)
entity_after spaces (entity.Tag x) = simp append-nil refl
entity_after spaces (entity.Func x) = simp append-nil refl
entity_after spaces (entity.Table x) = simp append-nil refl
entity_after spaces (entity.Memory x) = simp append-nil refl
entity_after spaces (entity.Global x) = simp append-nil refl

pub counts_more : {types : List SubType} {distinct : Bool} {old new : Imported} {imports : List Import}
    {pairs : HashSet (String Global × String Global) (BuildHasherDefault FoldHasher)} (one : Import)
    → Counts types distinct old imports → KnowsPairs distinct pairs (imports ++ one ∷ []) → AreImportsCounted types one.entity_type
    (record old { pairs = pairs }) new → Counts types distinct new (imports ++ one ∷ [])
counts_more {types = types} {old = old} {imports = imports} one counts knows counted = record {
  spaces = counted.spaces ∙ entity_after (spaces_of old) one.entity_type ∙ ap (λ spaces. joined spaces (entity_spaces one.entity_type))
      counts.spaces ∙ sym (spaces_more imports one);
  count = counted.count ∙ rw (counts.count, length-append) refl;
  type_size = counted.type_size ∙ rw (counts.type_size, sizes_more types imports one) refl;
  pairs = rw counted.pairs knows;
}

-- the imports of a group, with one more
pub import_added : (group : Imports) (name : List ℕ) (one : EntityType) → IsCompact group → IsOfGroup group one
    → imports_of (with_import group name one) ≡ imports_of group ++ import_of (module_name group) name one ∷ []
import_added (Single imported) name one compact of_group = absurd compact
import_added (Compact1 from items) name one compact of_group = map-append (λ (item : ImportItem). import_of from item.name item.entity_type)
    items (record { name = name; entity_type = one } ∷ [])
import_added (Compact2 from entity_type names) name one compact of_group =
    rw of_group (map-append (λ (n : List ℕ). import_of from n entity_type) names (name ∷ []))

funcs_grown : (spaces : EntitySpaces) (added : EntityType) → (with_entity spaces added).funcs ≡ spaces.funcs ++ func_of added
funcs_grown spaces added = ap (λ (all : EntitySpaces). all.funcs) (entity_after spaces added)

fit_later : (config : Config) (types : List SubType) (spaces : EntitySpaces) (one added : EntityType) → IsFitBeside config types spaces one
    → IsFitBeside config types (with_entity spaces added) one
fit_later config types spaces one added h = record {
  entity = h.entity;
  grounded_tables = grounded_later config elements_of types spaces (with_entity spaces added) (func_of added) (funcs_grown spaces added)
      (table_of one) h.grounded_tables;
  grounded_globals = grounded_later config value_in types spaces (with_entity spaces added) (func_of added) (funcs_grown spaces added)
      (global_of one) h.grounded_globals;
}

pub ready_more : (config : Config) (types : List SubType) (spaces : EntitySpaces) (group : Imports) (name : List ℕ) (one : EntityType)
    → IsOpen config types spaces group → IsOpen config types (with_entity spaces one) (with_import group name one)
ready_more config types spaces (Single imported) name one ready = absurd ready.compact
ready_more config types spaces (Compact1 from items) name one ready = record { fit = tt; enabled = ready.enabled; compact = tt }
ready_more config types spaces (Compact2 from entity_type names) name one ready =
    record { fit = fit_later config types spaces entity_type one ready.fit; enabled = ready.enabled; compact = tt }

-- there are no more entities of a kind than imports
few_of_kind : {A : Type 0} (of_kind : EntityType → List A) → ((one : EntityType) → length (of_kind one) ≤ 1) → (imports : List Import)
    → length (imported of_kind imports) ≤ length imports
few_of_kind of_kind few [] = omega arith
few_of_kind of_kind few (one ∷ imports) = omega (
  arith,
  few one.entity_type,
  few_of_kind of_kind few imports,
  length-append (of_kind one.entity_type) (imported of_kind imports),
)

-- an entity is at most one of each kind
record IsOne (added : EntityType) : Type 0 where
  tags : length (tag_of added) ≤ 1
  funcs : length (func_of added) ≤ 1
  tables : length (table_of added) ≤ 1
  memories : length (memory_of added) ≤ 1
  globals : length (global_of added) ≤ 1

is_one : (added : EntityType) → IsOne added
is_one (entity.Tag x) = record {
  tags = omega arith;
  funcs = omega arith;
  tables = omega arith;
  memories = omega arith;
  globals = omega arith;
}
is_one (entity.Func x) = record {
  tags = omega arith;
  funcs = omega arith;
  tables = omega arith;
  memories = omega arith;
  globals = omega arith;
}
is_one (entity.Table x) = record {
  tags = omega arith;
  funcs = omega arith;
  tables = omega arith;
  memories = omega arith;
  globals = omega arith;
}
is_one (entity.Memory x) = record {
  tags = omega arith;
  funcs = omega arith;
  tables = omega arith;
  memories = omega arith;
  globals = omega arith;
}
is_one (entity.Global x) = record {
  tags = omega arith;
  funcs = omega arith;
  tables = omega arith;
  memories = omega arith;
  globals = omega arith;
}

full_ends : (config : Config) (imports : List Import) (of_kind : ExportKind) → has_room config (imported_spaces imports) of_kind ≡ false
    → MayEnd config (length imports)
full_ends config imports kind.Tag full = let le = ltb-false (length (imported tag_of imports)) config.max_tags full in
    inr (inl (omega (arith, few_of_kind tag_of (λ one. (is_one one).tags) imports)))
full_ends config imports kind.Func full = let le = ltb-false (length (imported func_of imports)) config.max_funcs full in
    inr (inr (inl (omega (arith, few_of_kind func_of (λ one. (is_one one).funcs) imports))))
full_ends config imports kind.Global full = let le = ltb-false (length (imported global_of imports)) config.max_globals full in
    inr (inr (inr (inl (omega (arith, few_of_kind global_of (λ one. (is_one one).globals) imports)))))
full_ends config imports kind.Memory full = let le = ltb-false (length (imported memory_of imports)) config.max_memories full in
    inr (inr (inr (inr (inl (omega (arith, few_of_kind memory_of (λ one. (is_one one).memories) imports))))))
full_ends config imports kind.Table full = let le = ltb-false (length (imported table_of imports)) config.max_tables full in
    inr (inr (inr (inr (inr (omega (arith, few_of_kind table_of (λ one. (is_one one).tables) imports))))))

pub ends : (config : Config) (types : List SubType) (imports : List Import) → sizes types imports ≤ 42 * length imports
    → MayEndAt config (imported_spaces imports) (sizes types imports) → MayEnd config (length imports)
ends config types imports small (inl large) = inl (omega (arith, small, large))
ends config types imports small (inr (of_kind, full)) = full_ends config imports of_kind full

pub ends_counted : {config : Config} {types : List SubType} {distinct : Bool} {made : Imported} {imports : List Import}
    → Counts types distinct made imports → AreImportsFit config types distinct imports → MayEndAt config (spaces_of made) made.type_size
    → MayEnd config made.count
ends_counted {config = config} {types = types} {imports = imports} counts fit at =
    rw counts.count (ends config types imports fit.small (rw (counts.spaces, counts.type_size) at at))

-- an empty group has no import
pub none_added : (imports : List Import) (group : Imports) → (0 < length (imports_of group) → ⊥) → imports ++ imports_of group ≡ imports
none_added imports group none = nothing_after (imports_of group) none
  where
    nothing_after : (more : List Import) → (0 < length more → ⊥) → imports ++ more ≡ imports
    nothing_after [] none = append-nil imports
    nothing_after (one ∷ more) none = absurd (none (omega arith))

-- a single import after the groups
pub single_added : {config : Config} {types : List SubType} {distinct : Bool} {old counted : Imported}
    {pairs : HashSet (String Global × String Global) (BuildHasherDefault FoldHasher)} {groups : List Imports} (one : Import)
    → IsImported config types distinct old → KnowsPairs distinct pairs (flattened old.groups ++ one ∷ [])
    → AreImportsCounted types one.entity_type (record old { pairs = pairs }) counted → groups ≡ counted.groups ++ Single one ∷ []
    → IsNext config types (spaces_of old) old.type_size one.entity_type → old.count < config.max_imports
    → (IsTrue distinct → is_taken (flattened old.groups) one.«module» one.name ≡ false)
    → IsImported config types distinct (record counted { groups = groups })
single_added {config = config} {types = types} {distinct = distinct} {old = old} {counted = counted} {groups = groups} one so_far knows is
    pushed_is next room fresh =
    let imports = flattened old.groups in
    let more = counts_more {old = old} {new = counted} one so_far.counts knows is in
    let groups_are : groups ≡ old.groups ++ Single one ∷ [] = pushed_is ∙ ap (λ (made : List Imports). made ++ Single one ∷ []) is.groups in
    let all : flattened groups ≡ imports ++ one ∷ [] = ap (λ (made : List Imports). flattened made) groups_are ∙ flat_map-append imports_of
    old.groups (Single one ∷ []) in
    let fit = fit_more config types distinct imports one so_far.fit (rw (so_far.counts.spaces, so_far.counts.type_size) at next)
    (rw so_far.counts.count at room) fresh in
    let P = IsImportsValid (features_of config) in
    record {
      counts = rw all (record { spaces = more.spaces; count = more.count; type_size = more.type_size; pairs = more.pairs });
      fit = rw all fit;
      groups = rw groups_are (All-append P old.groups (Single one ∷ []) so_far.groups
          (All-cons P (Single one) [] (record { filled = omega arith; enabled = tt }) (All-nil P)));
    }
