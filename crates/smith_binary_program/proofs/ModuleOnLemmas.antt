-- The parts of a valid module have the forms of enabled features alone.
use Rattle.smith_binary_program.proofs.Common.{[], All, All-cons, All-from_recursion, All-head, All-map, All-nil, All-same, All-tail}
use Rattle.smith_binary_program.proofs.Common.{All-weaker, arith, as_expr, ConstInstr, Context, drop, Features, get_or, GlobalType}
use Rattle.smith_binary_program.proofs.Common.{group_at, IsExprEnabled, IsGlobalTypeEnabled, IsGlobalValid, IsGroupEnabled}
use Rattle.smith_binary_program.proofs.Common.{IsImportGroupEnabled, IsMemoryTypeEnabled, IsTableValid, IsTrue, IsValid, length}
use Rattle.smith_binary_program.proofs.Common.{length-drop, List, map, MemoryType, module_features, ModuleParts, None, Option, Range, Ref}
use Rattle.smith_binary_program.proofs.Common.{slice_get-get_or, slice_get_within, Some, sym, TableType, zip, ℕ, ◌++◌, ◌<◌, ◌∷◌, ◌≤◌}
use Rattle.std.proofs.lemmas.List.Elements.{All-drop}
use Rattle.smith_types.specs.Syntax.entity_type.EntityType.{EntityType}
use Rattle.smith_types.specs.Syntax.entity_type.ExportKind.{ExportKind}
use Rattle.smith_types.specs.Syntax.entity_type.ExportKind.TheVariants as kind
use Rattle.smith_types.specs.Entities.{IsMemoryValid}
use Rattle.smith_types.specs.Exports.{IsEntityAt}
use Rattle.smith_types.specs.Imports.{Defines, flattened}
use Rattle.smith_types.specs.Types.{end_from}
use Rattle.smith_types.proofs.ValidityLemmas.{ends_within}
use Rattle.smith_module_rules.specs.Module.{global_context, IsTableInitialised, module_imports}
use Rattle.smith_module_rules.specs.Module.{module_spaces, table_context}
use Rattle.smith_decode.specs.Forms.{IsKindEnabled}
use Rattle.smith_decode.specs.TypeForms.{IsTableTypeEnabled}
use Rattle.smith_binary_program.proofs.ConstantsOnLemmas.{expr_on}
use Rattle.smith_binary_program.proofs.InstructionsOnLemmas.{AreSpacesOn}
use Rattle.smith_binary_program.proofs.TypesOnLemmas.{each_import_on, front, global_on, group_on, imports_on, memory_on, table_on}

-- groups of types
pub groups_on : (m : ModuleParts) → IsValid m → All (IsGroupEnabled (module_features m)) (map (group_at m.types) m.groups)
groups_on m valid =
    let covered = valid.types.covered in
    let ends = All-from_recursion (λ (g : Range ℕ). g.end ≤ end_from 0 m.groups) m.groups (ends_within 0 m.groups covered.consecutive).1 in
    All-map (IsGroupEnabled (module_features m)) (group_at m.types) m.groups (λ k d within.
    let group = get_or m.groups k d in
    let inside : group.end ≤ length m.types = omega (arith, ends k d within, covered.whole) in
    group_on (module_features m) m.types group inside (valid.types.groups k d within))

-- imports
imported_on : {A : Type 0} (P : A → Type 0) (imports : List A) (count : ℕ) (space : List A) → Defines imports count space → All P space
    → All P imports
imported_on P imports count space made all =
    front P imports made.defined (All-same P (imports ++ made.defined) space (sym made.parts) all)

more_in : {A : Type 0} (imports : List A) (count : ℕ) (space : List A) → Defines imports count space → 0 < length imports
    → 0 < length space
more_in [] count space made some = absurd (omega (arith, some))
more_in (x ∷ imports) count [] made some = absurd (let never = made.parts in cc)
more_in (x ∷ imports) count (y ∷ space) made some = omega arith

pub module_imports_on : (m : ModuleParts) → IsValid m → All (IsImportGroupEnabled (module_features m)) m.imports
module_imports_on m valid =
    let features = module_features m in
    let from = module_imports m in
    let spaces = valid.spaces in
    imports_on features m.imports valid.imports (each_import_on features m.types (flattened m.imports) (record {
      tables = imported_on (IsTableValid features m.types) from.tables (length m.defined_tables) m.tables spaces.tables
          valid.entities.tables;
      memories = imported_on (IsMemoryValid features) from.memories m.num_defined_memories m.memories spaces.memories
          valid.entities.memories;
      globals = imported_on (IsGlobalValid features m.types) from.globals (length m.defined_globals) m.globals spaces.globals
          valid.entities.globals;
      tags = λ some. valid.counts.tags (more_in from.tags m.num_defined_tags m.tags spaces.tags some);
    }))

-- pairs of items
zipped : {A B : Type 0} (P : A → Type 0) (Q : B → Type 0) (xs : List A) (ys : List B) → All P xs → All Q ys
    → All (λ (z : A × B). P z.0 × Q z.1) (zip xs ys)
zipped P Q [] ys one other = All-nil (λ z. P z.0 × Q z.1)
zipped P Q (x ∷ xs) [] one other = All-nil (λ z. P z.0 × Q z.1)
zipped P Q (x ∷ xs) (y ∷ ys) one other =
    All-cons (λ z. P z.0 × Q z.1) (x, y) (zip xs ys) (All-head P x xs one, All-head Q y ys other)
    (zipped P Q xs ys (All-tail P x xs one) (All-tail Q y ys other))

-- tables: an initialiser requires garbage collection
abbrev pub IsInitialOn : Features → Option (List ConstInstr) → Type 0
IsInitialOn features None = Unit {0}
IsInitialOn features (Some expression) = IsTrue features.gc × IsExprEnabled features (as_expr expression)

initial_on : (context : Context) (table : TableType) (initial : Option (List ConstInstr)) → IsTableInitialised context table initial
    → IsInitialOn context.features initial
initial_on context table None h = tt
initial_on context table (Some expression) h = (h.0, expr_on context (Ref table.element_type) expression h.1)

abbrev pub IsTableOn : Features → TableType × Option (List ConstInstr) → Type 0
IsTableOn features given = IsTableTypeEnabled features given.0 × IsInitialOn features given.1

pub tables_on : (m : ModuleParts) (n : ℕ) → IsValid m → All (IsTableOn (module_features m)) (zip (drop n m.tables) m.defined_tables)
tables_on m n valid =
    let features = module_features m in
    zipped (IsTableTypeEnabled features) (IsInitialOn features) (drop n m.tables) m.defined_tables
    (All-drop (IsTableTypeEnabled features) n m.tables
    (All-weaker (IsTableValid features m.types) (IsTableTypeEnabled features) (table_on features m.types) m.tables valid.entities.tables))
    (λ k d within.
    let initial = get_or m.defined_tables k d in
    let (table, stands, initialised) = valid.definitions.tables k initial (slice_get-get_or m.defined_tables k d within) in
    initial_on (table_context m) table initial initialised)

-- memories, tags and globals
pub memories_on : (m : ModuleParts) (n : ℕ) → IsValid m → All (IsMemoryTypeEnabled (module_features m)) (drop n m.memories)
memories_on m n valid =
    let features = module_features m in
    All-drop (IsMemoryTypeEnabled features) n m.memories
    (All-weaker (IsMemoryValid features) (IsMemoryTypeEnabled features) (memory_on features) m.memories valid.entities.memories)

pub tags_on : (m : ModuleParts) (n : ℕ) → IsValid m → All (λ (tag : ℕ). IsTrue (module_features m).exceptions) (drop n m.tags)
tags_on m n valid k d within = valid.counts.tags (omega (arith, within, length-drop n m.tags))

abbrev pub IsGlobalOn : Features → GlobalType × (ℕ × List ConstInstr) → Type 0
IsGlobalOn features given = IsGlobalTypeEnabled features given.0 × IsExprEnabled features (as_expr given.1.1)

pub globals_on : (m : ModuleParts) (n : ℕ) → IsValid m → All (IsGlobalOn (module_features m)) (zip (drop n m.globals) m.defined_globals)
globals_on m n valid =
    let features = module_features m in
    zipped (IsGlobalTypeEnabled features) (λ (given : ℕ × List ConstInstr). IsExprEnabled features (as_expr given.1)) (drop n m.globals)
    m.defined_globals
    (All-drop (IsGlobalTypeEnabled features) n m.globals
    (All-weaker (IsGlobalValid features m.types) (IsGlobalTypeEnabled features) (global_on features m.types) m.globals
    valid.entities.globals))
    (λ k d within.
    let given = get_or m.defined_globals k d in
    let made = valid.definitions.globals k given.0 given.1 (slice_get-get_or m.defined_globals k d within) in
    expr_on (global_context m given.0) made.global.val_type given.1 made.initialised)

-- exports
kind_on : (m : ModuleParts) → IsValid m → (of : ExportKind) (index : ℕ) (ty : EntityType) → IsEntityAt (module_spaces m) of index ty
    → IsKindEnabled (module_features m) of
kind_on m valid kind.Tag index ty h = valid.counts.tags (omega (arith, slice_get_within m.tags index h.0 h.1))
kind_on m valid _ index ty h = tt

pub exports_on : (m : ModuleParts) → IsValid m
    → All (λ (one : List ℕ × ExportKind × ℕ). IsKindEnabled (module_features m) one.1) m.exports
exports_on m valid =
    All-weaker (λ (one : List ℕ × ExportKind × ℕ). (ty : EntityType) × IsEntityAt (module_spaces m) one.1 one.2 ty)
    (λ (one : List ℕ × ExportKind × ℕ). IsKindEnabled (module_features m) one.1) (λ one h. kind_on m valid one.1 one.2 h.0 h.1)
    m.exports valid.exports.stand

-- what bodies need of tables and memories
pub spaces_on : (m : ModuleParts) → IsValid m → AreSpacesOn (module_features m) m.tables m.memories
spaces_on m valid = record {
  several_tables = valid.counts.several_tables;
  several_memories = valid.counts.several_memories;
  wide = All-weaker (IsMemoryValid (module_features m)) (λ (memory : MemoryType). IsTrue memory.memory64
      → IsTrue (module_features m).memory64)
      (λ memory h. h.memory64) m.memories valid.entities.memories;
}
