-- The entities that follow imports are valid with one more that is defined.
use Rattle.smith_draw_definitions.proofs.Common.{[], All-head, All-push, and_right, ap, append_assoc, AreEntitiesValid, AreSpacesGrown}
use Rattle.smith_draw_definitions.proofs.Common.{AreTypesValid, arith, Bool, cond, Config, ConstInstr, Context, EntitySpaces, EntityType}
use Rattle.smith_draw_definitions.proofs.Common.{Extends, false, Features, features_of, GlobalType, GroupedTypes, if◌then◌else◌, inl, inr}
use Rattle.smith_draw_definitions.proofs.Common.{IsConstExpr, IsContextGrown, IsFuncTypeIndex, IsGlobalValid, IsMemoryValid, IsTableValid}
use Rattle.smith_draw_definitions.proofs.Common.{IsTagValid, IsTrue, length, length-append, List, lt-ltb, MemoryType, nat_le, nat_lt, None}
use Rattle.smith_draw_definitions.proofs.Common.{Option, refl, SeveralMemories, SeveralTables, slice_get, slice_get-grown, slice_get-last}
use Rattle.smith_draw_definitions.proofs.Common.{slice_get-push, Some, subst, SubType, sym, TableType, true, with_entity, ℕ, ◌&&◌, ◌++◌}
use Rattle.smith_draw_definitions.proofs.Common.{◌+◌, ◌-◌, ◌<◌, ◌∙◌, ◌∷◌, ◌≡◌}
use Rattle.std.proofs.Common.{not}
use Rattle.std.proofs.lemmas.Bool.{leb-false}
use Rattle.smith_types.specs.Imports.{Defines, entity_spaces, tag_of}
use Rattle.smith_types.specs.Syntax.entity_type.EntityType.TheVariants as entity
use Rattle.smith_types.proofs.ExpressionGrowthLemmas.{IsConstExpr-grown}
use Rattle.smith_types.proofs.EntityGrowthLemmas.{AreEntitiesValid-grown}
use Rattle.smith_draw_definitions.specs.Defined.{StandsAfter, scope_in, IsGlobalInitialised}
use Rattle.smith_draw_definitions.specs.Definitions.{context_at}
use Rattle.smith_module_rules.specs.Module.{IsTableInitialised}
use Rattle.smith_draw_definitions.specs.Required.{IsDefinedMore}
use Rattle.smith_draw_definitions.specs.RequiredExports.{several, scope_beside}
use Rattle.smith_draw_definitions.specs.declared.definitions.Definitions.{Definitions}
use Rattle.smith_draw_definitions.proofs.ExtensionLemmas.{all_kept}
use Rattle.smith_module_rules.proofs.InitialLemmas.{IsTableInitialised-grown}

pub one_more : {A : Type 0} (xs : List A) (x : A) → Extends xs (xs ++ x ∷ [])
one_more xs x = record { more = x ∷ []; parts = refl }

-- index spaces grow by an entity
pub spaces_grown : (spaces : EntitySpaces) (added : EntityType) → AreSpacesGrown spaces (with_entity spaces added)
spaces_grown spaces (entity.Tag index) = record {
  tags = one_more spaces.tags index;
  funcs = all_kept spaces.funcs;
  tables = all_kept spaces.tables;
  memories = all_kept spaces.memories;
  globals = all_kept spaces.globals;
}
spaces_grown spaces (entity.Func index) = record {
  tags = all_kept spaces.tags;
  funcs = one_more spaces.funcs index;
  tables = all_kept spaces.tables;
  memories = all_kept spaces.memories;
  globals = all_kept spaces.globals;
}
spaces_grown spaces (entity.Table table) = record {
  tags = all_kept spaces.tags;
  funcs = all_kept spaces.funcs;
  tables = one_more spaces.tables table;
  memories = all_kept spaces.memories;
  globals = all_kept spaces.globals;
}
spaces_grown spaces (entity.Memory memory) = record {
  tags = all_kept spaces.tags;
  funcs = all_kept spaces.funcs;
  tables = all_kept spaces.tables;
  memories = one_more spaces.memories memory;
  globals = all_kept spaces.globals;
}
spaces_grown spaces (entity.Global global) = record {
  tags = all_kept spaces.tags;
  funcs = all_kept spaces.funcs;
  tables = all_kept spaces.tables;
  memories = all_kept spaces.memories;
  globals = one_more spaces.globals global;
}

-- entities stay valid with one more that is
pub entities_more : (features : Features) (types : List SubType) (spaces : EntitySpaces) (added : EntityType)
    → AreEntitiesValid features types spaces → AreEntitiesValid features types (entity_spaces added)
    → AreEntitiesValid features types (with_entity spaces added)
entities_more features types spaces (entity.Tag index) h one = record {
  tags = All-push (IsTagValid types) spaces.tags index h.tags (All-head (IsTagValid types) index [] one.tags);
  funcs = h.funcs;
  tables = h.tables;
  memories = h.memories;
  globals = h.globals;
}
entities_more features types spaces (entity.Func index) h one = record {
  tags = h.tags;
  funcs = All-push (IsFuncTypeIndex types) spaces.funcs index h.funcs (All-head (IsFuncTypeIndex types) index [] one.funcs);
  tables = h.tables;
  memories = h.memories;
  globals = h.globals;
}
entities_more features types spaces (entity.Table table) h one = record {
  tags = h.tags;
  funcs = h.funcs;
  tables = All-push (IsTableValid features types) spaces.tables table h.tables (All-head (IsTableValid features types) table [] one.tables);
  memories = h.memories;
  globals = h.globals;
}
entities_more features types spaces (entity.Memory memory) h one = record {
  tags = h.tags;
  funcs = h.funcs;
  tables = h.tables;
  memories = All-push (IsMemoryValid features) spaces.memories memory h.memories (All-head (IsMemoryValid features) memory [] one.memories);
  globals = h.globals;
}
entities_more features types spaces (entity.Global global) h one = record {
  tags = h.tags;
  funcs = h.funcs;
  tables = h.tables;
  memories = h.memories;
  globals = All-push (IsGlobalValid features types) spaces.globals global h.globals
      (All-head (IsGlobalValid features types) global [] one.globals);
}

pub entities_longer : {features : Features} (types ours : List SubType) (spaces : EntitySpaces) → Extends types ours
    → AreEntitiesValid features types spaces → AreEntitiesValid features ours spaces
entities_longer {features = features} types ours spaces longer h =
    subst (λ (all : List SubType). AreEntitiesValid features all spaces) (sym longer.parts)
    (AreEntitiesValid-grown features types longer.more spaces h)

-- a list of items that are defined after imported ones, with one more
defines_more : {A : Type 0} {imports space : List A} {count : ℕ} (x : A) → Defines imports count space
    → Defines imports (count + 1) (space ++ x ∷ [])
defines_more {imports = imports} x h = record {
  defined = h.defined ++ x ∷ [];
  count_is = simp length-append (omega (arith, h.count_is));
  parts = ap (λ xs. xs ++ x ∷ []) h.parts ∙ append_assoc imports h.defined (x ∷ []);
}

defines_longer : {A B : Type 0} {imports space : List A} (initials : List B) (x : A) (y : B) → Defines imports (length initials) space
    → Defines imports (length (initials ++ y ∷ [])) (space ++ x ∷ [])
defines_longer {imports = imports} {space = space} initials x y h =
    let longer : length initials + 1 ≡ length (initials ++ y ∷ []) = simp length-append refl in
    subst (λ (n : ℕ). Defines imports n (space ++ x ∷ [])) longer (defines_more x h)

-- all items that are not defined are imported
pub left_over : {A : Type 0} {imports space : List A} {count : ℕ} → Defines imports count space → length space - count ≡ length imports
left_over {imports = imports} h = let whole = ap length h.parts ∙ length-append imports h.defined in omega (arith, whole, h.count_is)

pub defined_end : {A : Type 0} {imports space : List A} {count : ℕ} → Defines imports count space → length space ≡ length imports + count
defined_end {imports = imports} h = let whole = ap length h.parts ∙ length-append imports h.defined in omega (arith, whole, h.count_is)

-- if there is no reason to refuse, several are allowed
not_both : {A : Type 0} (b c : Bool) (why : A) → (if b && c then Some why else None) ≡ None → b ≡ true → c ≡ false
not_both true true why none on = absurd cc
not_both true false why none on = refl
not_both false c why none on = absurd cc

not_false : (b : Bool) → not b ≡ false → b ≡ true
not_false true h = refl
not_false false h = absurd cc

pub tables_enabled : (config : Config) (spaces : EntitySpaces) (table : TableType) → several config spaces (entity.Table table) ≡ None
    → 1 < length (spaces.tables ++ table ∷ []) → config.reference_types_enabled ≡ true
tables_enabled config spaces table alone some =
    let longer = length-append spaces.tables (table ∷ []) in
    not_false config.reference_types_enabled (not_both (nat_lt 0 (length spaces.tables)) (not config.reference_types_enabled) SeveralTables
    alone (lt-ltb 0 (length spaces.tables) (omega (arith, longer, some))))

pub memories_enabled : (config : Config) (spaces : EntitySpaces) (memory : MemoryType) → several config spaces (entity.Memory memory) ≡ None
    → 1 < length (spaces.memories ++ memory ∷ []) → nat_lt 1 config.max_memories ≡ true
memories_enabled config spaces memory alone some =
    let longer = length-append spaces.memories (memory ∷ []) in
    lt-ltb 1 config.max_memories
    (leb-false config.max_memories 1 (not_both (nat_lt 0 (length spaces.memories)) (nat_le config.max_memories 1) SeveralMemories alone
    (lt-ltb 0 (length spaces.memories) (omega (arith, longer, some)))))

-- with defined globals invisible, the imported ones are visible; else all are
seen_so : (gc : Bool) (all imported : ℕ) → cond (gc && false) all imported ≡ imported
seen_so gc all imported = rw (and_right gc false refl) refl

all_seen : (gc : Bool) (all imported : ℕ) → cond (gc && true) all imported ≡ cond gc all imported
all_seen true all imported = refl
all_seen false all imported = refl

module _ (config : Config) (imported : EntitySpaces) where
  -- the context of an initialiser after these imports
  abbrev context : List SubType → EntitySpaces → ℕ → Context
  context types spaces visible = context_at config (scope_in types imported spaces) spaces.globals visible

  -- the same over types and entities, by the numbers of imported functions and globals
  abbrev around : List SubType → EntitySpaces → ℕ → ℕ → ℕ → Context
  around types spaces funcs globals visible = record {
    features = features_of config;
    types = types;
    funcs = spaces.funcs;
    globals = spaces.globals;
    imported_funcs = funcs;
    imported_globals = globals;
    visible = visible;
  }

  module _ (types : List SubType) (spaces : EntitySpaces) (defined : Definitions)
      (funcs : Defines imported.funcs defined.num_funcs spaces.funcs) (globals : Defines imported.globals (length defined.globals)
      spaces.globals) where
    scope_is : (allow : Bool)
        → scope_beside config types spaces defined allow ≡ around types spaces (length imported.funcs) (length imported.globals)
        (cond (config.gc_enabled && allow) (length spaces.globals) (length imported.globals))
    scope_is allow =
        ap (λ (n : ℕ). around types spaces n (length spaces.globals - length defined.globals)
        (cond (config.gc_enabled && allow) (length spaces.globals) (length spaces.globals - length defined.globals))) (left_over funcs)
        ∙ ap (λ (n : ℕ). around types spaces (length imported.funcs) n (cond (config.gc_enabled && allow) (length spaces.globals) n))
        (left_over globals)

    table_scope_is : scope_beside config types spaces defined false ≡ context types spaces (length imported.globals)
    table_scope_is = scope_is false ∙ ap (around types spaces (length imported.funcs) (length imported.globals))
        (seen_so config.gc_enabled (length spaces.globals) (length imported.globals))

    global_scope_is : scope_beside config types spaces defined true ≡ context types spaces
        (cond config.gc_enabled (length spaces.globals) (length imported.globals))
    global_scope_is = scope_is true ∙ ap (around types spaces (length imported.funcs) (length imported.globals))
        (all_seen config.gc_enabled (length spaces.globals) (length imported.globals))

  -- contexts grow with types and index spaces
  context_grown : (types more_types : List SubType) (spaces more_spaces : EntitySpaces) (visible : ℕ) → Extends types more_types
      → AreSpacesGrown spaces more_spaces → IsContextGrown (context types spaces visible) (context more_types more_spaces visible)
  context_grown types more_types spaces more_spaces visible longer grown = record {
    features = refl;
    types = longer;
    funcs = grown.funcs;
    globals = grown.globals;
    imported_funcs = refl;
    imported_globals = refl;
    visible = omega arith;
  }

  -- the initialiser of a table, or of a global, at its place
  abbrev pub IsTablePlaced : List SubType → EntitySpaces → ℕ → Option (List ConstInstr) → Type 0
  IsTablePlaced types spaces place initial =
      (table : TableType) × (slice_get spaces.tables (length imported.tables + place) ≡ Some table)
      × IsTableInitialised (context types spaces (length imported.globals)) table initial

  abbrev IsGlobalPlaced : List SubType → EntitySpaces → ℕ → ℕ → List ConstInstr → Type 0
  IsGlobalPlaced types spaces place index initial = IsGlobalInitialised config (scope_in types imported spaces) spaces.globals place index
      initial

  module _ (types more_types : List SubType) (spaces more_spaces : EntitySpaces) (longer : Extends types more_types)
      (grown : AreSpacesGrown spaces more_spaces) where
    -- it stays there
    pub table_kept : (place : ℕ) (initial : Option (List ConstInstr)) → IsTablePlaced types spaces place initial
        → IsTablePlaced more_types more_spaces place initial
    table_kept place initial (table, at, initialised) =
        let end = length imported.globals in
        let index = length imported.tables + place in (
          table,
          subst (λ tables. slice_get tables index ≡ Some table) (sym grown.tables.parts)
              (slice_get-grown spaces.tables grown.tables.more index table at),
          IsTableInitialised-grown (context types spaces end) (context more_types more_spaces end)
              (context_grown types more_types spaces more_spaces end longer grown) table initial initialised,
        )

    pub global_kept : (place index : ℕ) (initial : List ConstInstr) → IsGlobalPlaced types spaces place index initial
        → IsGlobalPlaced more_types more_spaces place index initial
    global_kept place index initial h =
        let end = cond config.gc_enabled index (length imported.globals) in
        record {
          in_order = h.in_order;
          global = h.global;
          stands = subst (λ globals. slice_get globals index ≡ Some h.global) (sym grown.globals.parts)
              (slice_get-grown spaces.globals grown.globals.more index h.global h.stands);
          initialised = IsConstExpr-grown (context types spaces end) (context more_types more_spaces end)
              (context_grown types more_types spaces more_spaces end longer grown) h.global.val_type initial h.initialised;
        }

  module _ (space ours : GroupedTypes) (spaces : EntitySpaces) (defined : Definitions)
      (now : StandsAfter config imported space spaces defined) (valid : AreTypesValid (features_of config) ours)
      (longer : Extends space.types ours.types) where
    module _ (added : EntityType) (one : AreEntitiesValid (features_of config) ours.types (entity_spaces added)) where
      abbrev later : EntitySpaces
      later = with_entity spaces added

      ours_valid : AreEntitiesValid (features_of config) ours.types later
      ours_valid = entities_more (features_of config) ours.types spaces added
          (entities_longer space.types ours.types spaces longer now.entities) one

      old_table : (place : ℕ) (initial : Option (List ConstInstr)) → slice_get defined.tables place ≡ Some initial
          → IsTablePlaced ours.types later place initial
      old_table place initial at = table_kept space.types ours.types spaces later longer (spaces_grown spaces added) place initial
          (now.each_table place initial at)

      old_global : (place index : ℕ) (initial : List ConstInstr) → slice_get defined.globals place ≡ Some (index, initial)
          → IsGlobalPlaced ours.types later place index initial
      old_global place index initial at = global_kept space.types ours.types spaces later longer (spaces_grown spaces added) place index
          initial (now.each_global place index initial at)

    -- one more table, with its initialiser, if it has one
    new_table : (table : TableType) (given : Option (List ConstInstr)) → AreEntitiesValid (features_of config) ours.types
        (entity_spaces (entity.Table table)) → IsTableInitialised (scope_beside config ours.types spaces defined false) table given
        → (place : ℕ) (initial : Option (List ConstInstr)) → slice_get (defined.tables ++ given ∷ []) place ≡ Some initial
        → IsTablePlaced ours.types (with_entity spaces (entity.Table table)) place initial
    new_table table given one initialised place initial at = elim (slice_get-push defined.tables given place initial at) [
      | inl was ↦ old_table (entity.Table table) one place initial was
      | inr (is, same) ↦
          let end = length imported.globals in
          let later = with_entity spaces (entity.Table table) in
          let typed = subst (λ (scope : Context). IsTableInitialised scope table given)
          (table_scope_is ours.types spaces defined now.funcs now.globals) initialised in
          let at_end : slice_get (spaces.tables ++ table ∷ []) (length imported.tables + place) ≡ Some table =
          rw (is, ← defined_end now.tables) (slice_get-last spaces.tables table) in (
            table,
            at_end,
            subst (λ (expression : Option (List ConstInstr)). IsTableInitialised (context ours.types later end) table expression) same
                (IsTableInitialised-grown (context ours.types spaces end) (context ours.types later end)
                (context_grown ours.types ours.types spaces later end (all_kept ours.types) (spaces_grown spaces (entity.Table table)))
                table given typed),
          )
    ]

    -- one more global, with its initialiser
    new_global : (global : GlobalType) (given : List ConstInstr) → AreEntitiesValid (features_of config) ours.types
        (entity_spaces (entity.Global global)) → IsConstExpr (scope_beside config ours.types spaces defined true) global.val_type given
        → (place index : ℕ) (initial : List ConstInstr) → slice_get (defined.globals ++ (length spaces.globals, given) ∷ []) place
        ≡ Some (index, initial) → IsGlobalPlaced ours.types (with_entity spaces (entity.Global global)) place index initial
    new_global global given one initialised place index initial at =
        elim (slice_get-push defined.globals (length spaces.globals, given) place (index, initial) at) [
          | inl was ↦ old_global (entity.Global global) one place index initial was
          | inr (is, same) ↦
              let end = cond config.gc_enabled (length spaces.globals) (length imported.globals) in
              let later = with_entity spaces (entity.Global global) in
              let typed = subst (λ (scope : Context). IsConstExpr scope global.val_type given)
              (global_scope_is ours.types spaces defined now.funcs now.globals) initialised in
              let last : IsGlobalPlaced ours.types later (length defined.globals) (length spaces.globals) given = record {
                in_order = defined_end now.globals;
                global = global;
                stands = slice_get-last spaces.globals global;
                initialised = IsConstExpr-grown (context ours.types spaces end) (context ours.types later end)
                    (context_grown ours.types ours.types spaces later end (all_kept ours.types)
                    (spaces_grown spaces (entity.Global global)))
                    global.val_type given typed;
              } in
              subst (λ (each : ℕ × List ConstInstr). IsGlobalPlaced ours.types later place each.0 each.1) same
              (subst (λ (n : ℕ). IsGlobalPlaced ours.types later n (length spaces.globals) given) (sym is) last)
        ]

    -- the entities are valid over more types too
    pub stands_over : StandsAfter config imported ours spaces defined
    stands_over =
        let same : AreSpacesGrown spaces spaces = record {
          tags = all_kept spaces.tags;
          funcs = all_kept spaces.funcs;
          tables = all_kept spaces.tables;
          memories = all_kept spaces.memories;
          globals = all_kept spaces.globals;
        } in
        record {
          types = valid;
          entities = entities_longer space.types ours.types spaces longer now.entities;
          counts = now.counts;
          tags = now.tags;
          funcs = now.funcs;
          tables = now.tables;
          memories = now.memories;
          globals = now.globals;
          each_table = λ place initial at. table_kept space.types ours.types spaces spaces longer same place initial
              (now.each_table place initial at);
          each_global = λ place index initial at. global_kept space.types ours.types spaces spaces longer same place index initial
              (now.each_global place index initial at);
        }

    pub stands_more : (added : EntityType) (later : EntitySpaces) (more : Definitions) → AreEntitiesValid (features_of config) ours.types
        (entity_spaces added) → (0 < length (tag_of added) → IsTrue config.exceptions_enabled)
        → IsDefinedMore config ours.types spaces defined later more added → StandsAfter config imported ours later more
    stands_more (entity.Tag index) later more one enabled made = rw (made.spaces_are, made.initialised) (record {
      types = valid;
      entities = ours_valid (entity.Tag index) one;
      counts = record {
        tags = λ some. enabled (omega arith);
        several_tables = now.counts.several_tables;
        several_memories = now.counts.several_memories;
      };
      tags = defines_more index now.tags;
      funcs = now.funcs;
      tables = now.tables;
      memories = now.memories;
      globals = now.globals;
      each_table = old_table (entity.Tag index) one;
      each_global = old_global (entity.Tag index) one;
    })
    stands_more (entity.Func index) later more one enabled made = rw (made.spaces_are, made.initialised) (record {
      types = valid;
      entities = ours_valid (entity.Func index) one;
      counts = record {
        tags = now.counts.tags;
        several_tables = now.counts.several_tables;
        several_memories = now.counts.several_memories;
      };
      tags = now.tags;
      funcs = defines_more index now.funcs;
      tables = now.tables;
      memories = now.memories;
      globals = now.globals;
      each_table = old_table (entity.Func index) one;
      each_global = old_global (entity.Func index) one;
    })
    stands_more (entity.Memory memory) later more one enabled made = rw (made.spaces_are, made.initialised) (record {
      types = valid;
      entities = ours_valid (entity.Memory memory) one;
      counts = record {
        tags = now.counts.tags;
        several_tables = now.counts.several_tables;
        several_memories = memories_enabled config
            spaces memory made.alone;
      };
      tags = now.tags;
      funcs = now.funcs;
      tables = now.tables;
      memories = defines_more memory now.memories;
      globals = now.globals;
      each_table = old_table (entity.Memory memory) one;
      each_global = old_global (entity.Memory memory) one;
    })
    stands_more (entity.Table table) later more one enabled made =
        let (given, is, initialised) = made.initialised in
        rw (made.spaces_are, is) (record {
          types = valid;
          entities = ours_valid (entity.Table table) one;
          counts = record {
            tags = now.counts.tags;
            several_tables = tables_enabled config spaces table made.alone;
            several_memories = now.counts.several_memories;
          };
          tags = now.tags;
          funcs = now.funcs;
          tables = defines_longer defined.tables table given now.tables;
          memories = now.memories;
          globals = now.globals;
          each_table = new_table table given one initialised;
          each_global = old_global (entity.Table table) one;
        })
    stands_more (entity.Global global) later more one enabled made =
        let (given, is, initialised) = made.initialised in
        rw (made.spaces_are, is) (record {
          types = valid;
          entities = ours_valid (entity.Global global) one;
          counts = record {
            tags = now.counts.tags;
            several_tables = now.counts.several_tables;
            several_memories = now.counts.several_memories;
          };
          tags = now.tags;
          funcs = now.funcs;
          tables = now.tables;
          memories = now.memories;
          globals = defines_longer defined.globals global (length spaces.globals, given) now.globals;
          each_table = old_table (entity.Global global) one;
          each_global = new_global global given one initialised;
        })
