-- From a source that begins with bytes that spell types and functions, a module with these is
-- drawn; and if bytes follow that spell globals and passive data, a module with only these in
-- addition.
use Rattle.wasm_smith.proofs.Common.{[], ap, AsksNothingImpossible, Bool, Config, ConstInstr, Definitions, EntitySpaces, Err, Error, Export}
use Rattle.wasm_smith.proofs.Common.{Exports, false, flattened, GlobalType, GroupedTypes, HasNoShapes, I32Const, IfErr, imported_spaces}
use Rattle.wasm_smith.proofs.Common.{is_memory, IsSanitized, IsSome, IsSomeAnd, length, List, MemoryType, ModuleParts, nothing_defined, Ok}
use Rattle.wasm_smith.proofs.Common.{refl, Result, Returns, space_of, subst, SubType, TableType, then_with, true, Why, ℕ, ◌++◌, ◌∷◌, ◌≡◌}
use Rattle.std.proofs.Common.{cond, map, None, Option, Some, ℤ}
use Rattle.std.specs.Prelude.{IfOk, MatchResult, ⊤, ◌==◌}
use Rattle.smith_bytes.specs.Draws.{bool_at}
use Rattle.smith_bytes.specs.Spelling.{SpellsAnyByte, Where, Joined, Listed, SpellsNone}
use Rattle.smith_bytes.specs.declared.error.Count.TheVariants as counts
use Rattle.smith_bytes.specs.declared.error.Error.TheVariants as errors
use Rattle.smith_bytes.proofs.SpelledLemmas.{joined_parts}
use Rattle.smith_draw_types.specs.SpelledGlobals.{mutable_i32}
use Rattle.smith_draw_types.proofs.SpelledGroupLemmas.{types_read}
use Rattle.smith_spell.specs.Family.{IsInFamily}
use Rattle.smith_config.specs.Minimums.{HasNoMinimums}
use Rattle.smith_spell.specs.SpellAnswers.{IsSpellable}
use Rattle.smith_spell.specs.Spelling.{SpellsMember, SpellsRest, SpellsSegments}
use Rattle.smith_draw_types.specs.SpelledParts.{SpellsNoTag, SpellsFuncs, SpellsGlobal, SpellsNoStart}
use Rattle.smith_spell.proofs.FamilyFitLemmas.{family_fits}
use Rattle.wasm_smith.specs.FirstParts.{ModuleSoFar, first_parts_at, nothing_so_far}
use Rattle.smith_bytes.specs.Steps.{section_flag_at, ◌>>=◌}
use Rattle.wasm_smith.specs.Build.{IsGiven, as_drawn, size_so_far, first_parts_typed_at, defined_at, exported_at, exported_for, exports_of}
use Rattle.wasm_smith.specs.Build.{functions_so_far, module_at, module_of, with_types_at}
use Rattle.smith_draw_definitions.specs.Definitions.{defined_in, definitions_at, scope_over, tables_at, memories_at, globals_at}
use Rattle.wasm_smith.specs.DrawnContents.{segment_scope, all_segments_at, after_exports_at, in_full}
use Rattle.smith_draw_consts.proofs.TriedStepLemmas.{following, following_so}
use Rattle.wasm_smith.specs.Members.{HasMember, HasRest}
use Rattle.smith_draw_contents.specs.PassiveData.{passive_data}
use Rattle.wasm_smith.specs.Reached.{ReachesMembers, ReachesRests}
use Rattle.smith_draw_contents.specs.AllExports.{exports_at}
use Rattle.wasm_smith.specs.declared.build.contents.Contents.{Contents}
use Rattle.smith_draw_definitions.proofs.DefinedMemoryLemmas.{no_memory_read}
use Rattle.smith_draw_definitions.proofs.DefinedTableLemmas.{no_table_read}
use Rattle.wasm_smith.proofs.AddedImportLemmas.{freely_imported}
use Rattle.wasm_smith.proofs.MadeExportsLemmas.{freely_exported}
use Rattle.wasm_smith.proofs.NoShapeLemmas.{no_shapes_valid, none_used}
use Rattle.smith_draw_contents.proofs.ElementCountLemmas.{elements_none}
use Rattle.smith_draw_contents.proofs.ExportRefusalLemmas.{exports_free, no_export_read}
use Rattle.smith_draw_imports.proofs.NoImportLemmas.{no_import_read}
use Rattle.smith_draw_definitions.proofs.NumberedGlobalLemmas.{listed_of, listed_read}
use Rattle.smith_draw_contents.proofs.PassiveDataLemmas.{data_read}
use Rattle.smith_draw_contents.proofs.StartLemmas.{start_none}
use Rattle.smith_draw_definitions.proofs.TypedLemmas.{no_tag_read, funcs_read}

-- whether an empty section is written is one byte
flag_by : (empty : Bool) (piece after : List ℕ) → Where empty SpellsAnyByte piece
    → (cond empty (bool_at (piece ++ after)) (true, piece ++ after)).1 ≡ after
unfolding bool_at
flag_by true piece after h = rw h.whole refl
flag_by false piece after h = rw h refl

flag_read : (count : ℕ) (piece after : List ℕ) → Where (count == 0) SpellsAnyByte piece → (section_flag_at count (piece ++ after)).1 ≡ after
unfolding section_flag_at
flag_read count piece after h = flag_by (count == 0) piece after h

-- the index spaces without imports
abbrev nothing : EntitySpaces
nothing = imported_spaces (flattened [])

-- what draws of tables and of globals produce, with the bytes left
abbrev TablesRead : Type 0
TablesRead = (List TableType × List (Option (List ConstInstr))) × List ℕ

abbrev GlobalsRead : Type 0
GlobalsRead = (List GlobalType × List (ℕ × List ConstInstr)) × List ℕ

abbrev EntitiesRead : Type 0
EntitiesRead = (EntitySpaces × Definitions) × List ℕ

-- the index spaces and definitions of these functions, tables, memories and globals
abbrev entities_of : List ℕ → TablesRead → List MemoryType × List ℕ → GlobalsRead → EntitiesRead
entities_of funcs tables memories globals =
    let spaces : EntitySpaces = record { tags = []; funcs = funcs; tables = tables.0.0; memories = memories.0; globals = globals.0.0 } in
    ((spaces, defined_in nothing nothing_defined spaces tables.0.1 globals.0.1), globals.1)

-- the memories and globals that the bytes after tables produce
abbrev after_tables_at : Config → List SubType → List ℕ → TablesRead → Result EntitiesRead Error
after_tables_at config types funcs tables =
    let memories = memories_at config [] tables.1 in
    globals_at config (scope_over types funcs 0 []) [] [] memories.1 >>= λ (globals : GlobalsRead). Ok
    (entities_of funcs tables memories globals)

-- the tables, memories and globals that the bytes after functions produce, without imports
abbrev after_funcs_at : Config → List SubType → List ℕ → List ℕ → Result EntitiesRead Error
after_funcs_at config types funcs bytes = tables_at config (scope_over types funcs 0 []) [] [] bytes >>= after_tables_at config types funcs

-- these are the functions
same_funcs : (config : Config) (types : List SubType) (funcs bytes : List ℕ) → IfOk (after_funcs_at config types funcs bytes)
    (λ drawn. drawn.0.0.funcs ≡ funcs)
same_funcs config types funcs bytes =
    let Same = λ (drawn : EntitiesRead). drawn.0.0.funcs ≡ funcs in
    let standing = scope_over types funcs 0 [] in
    following {A = TablesRead} {B = EntitiesRead} {E = Error} Same (tables_at config standing [] [] bytes)
    (after_tables_at config types funcs) (λ tables.
    let memories = memories_at config [] tables.1 in
    following {A = GlobalsRead} {B = EntitiesRead} {E = Error} Same (globals_at config standing [] [] memories.1)
    (λ (globals : GlobalsRead). Ok (entities_of funcs tables memories globals)) (λ globals. refl {A = List ℕ} {a = funcs}))

definitions_read : (config : Config) (types : List SubType) (funcs piece after : List ℕ) → HasNoMinimums config
    → Joined (SpellsNoTag config types) (SpellsFuncs config types funcs) piece
    → definitions_at config types nothing nothing_defined (piece ++ after) ≡ after_funcs_at config types funcs after
unfolding definitions_at
definitions_read config types funcs piece after least h =
    rw (
      joined_parts h after,
      no_tag_read config types [] [] h.first (h.second ++ after) (least counts.Tags) refl (record { none = refl; spelled = h.is_first }),
      funcs_read config types [] funcs h.second after (least counts.Funcs) refl h.is_second,
    ) refl

-- the state after entities are defined over types, without imports
abbrev with_entities : List (List SubType) → EntitySpaces × Definitions → ModuleSoFar
with_entities groups made = record nothing_so_far { types = space_of groups; spaces = made.0; defined = made.1 }

-- the module that the bytes after exports produce, with this flag of imports
abbrev whole_at : Config → Bool → ModuleSoFar → List ℕ → Result (ModuleParts × List ℕ) Error
whole_at config flag whole bytes =
    after_exports_at config whole.types.types (imported_spaces (flattened whole.groups)) whole.spaces (exports_of config whole) bytes >>= λ
    (contents : Contents × List ℕ). Ok (module_of config whole contents.0 flag, contents.1)

-- the module that the bytes after entities produce
abbrev ending_at : Config → Bool → ModuleSoFar → List ℕ → Result (ModuleParts × List ℕ) Error
ending_at config flag so_far bytes = exported_at config so_far bytes >>= λ (exported : ModuleSoFar × List ℕ). whole_at config flag
    exported.0 exported.1

-- without shapes a module begins with the drawn types
types_alone : (config : Config) (bytes : List ℕ) → HasNoShapes config → first_parts_typed_at config bytes
    ≡ Ok (with_types_at config nothing_so_far bytes)
unfolding first_parts_typed_at first_parts_at
types_alone config bytes none = rw (none.module_shape, none.available_imports) refl

entities_defined : (config : Config) (groups : List (List SubType)) (funcs piece after : List ℕ) → HasNoMinimums config
    → Joined (SpellsNoTag config (space_of groups).types) (SpellsFuncs config (space_of groups).types funcs) piece
    → defined_at config (with_entities groups (nothing, nothing_defined)) (piece ++ after) ≡ then_with (λ made. with_entities groups made)
    (after_funcs_at config (space_of groups).types funcs after)
unfolding defined_at
entities_defined config groups funcs piece after least h = rw (definitions_read config (space_of groups).types funcs piece after least h)
    refl

-- the next step after the result of a step is changed
mapped_then : {A B C : Type 0} (f : A → B) (first : Result (A × List ℕ) Error) (next : B × List ℕ → Result C Error)
    → (then_with f first >>= next) ≡ (first >>= λ (drawn : A × List ℕ). next (f drawn.0, drawn.1))
mapped_then f (Ok drawn) next = refl
mapped_then f (Err e) next = refl

member_read : (distinct : Bool) (config : Config) (groups : List (List SubType)) (funcs piece after : List ℕ) → IsSanitized config
    → HasNoShapes config → HasNoMinimums config → IsInFamily config groups funcs → SpellsMember config groups funcs piece
    → (flag : Bool) × (module_at distinct config (piece ++ after) ≡ (after_funcs_at config (space_of groups).types funcs after >>= λ
    (drawn : EntitiesRead). ending_at config flag (with_entities groups drawn.0) drawn.1))
unfolding module_at SpellsMember
member_read distinct config groups funcs piece after sanitized none least member h =
    let imports = h.is_second in
    let flag = imports.is_second in
    let types = (space_of groups).types in
    let flagged = flag.second ++ after in (
      (section_flag_at 0 (flag.first ++ flagged)).0,
      rw (
        types_alone config (piece ++ after) none,
        joined_parts h after,
        types_read config (functions_so_far config nothing_so_far) refl groups h.first (h.second ++ after) sanitized (least counts.Types)
            (family_fits config groups funcs member) h.is_first,
        freely_imported distinct config (with_entities groups (nothing, nothing_defined)) (h.second ++ after) none.module_shape
            none.available_imports,
        joined_parts imports after,
        no_import_read config types distinct imports.first (imports.second ++ after) (least counts.Imports) imports.is_first,
        joined_parts flag after,
        flag_read 0 flag.first flagged flag.is_first,
        entities_defined config groups funcs flag.second after least flag.is_second,
      ) (mapped_then (λ made. with_entities groups made) (after_funcs_at config types funcs after) _),
    )

-- these are the types and functions of the module, whatever bytes follow
whole_ended : (config : Config) (groups : List (List SubType)) (so_far : ModuleSoFar) (flag : Bool)
    (contents : Result (Contents × List ℕ) Error) → so_far.types ≡ space_of groups
    → IfOk {T = ModuleParts × List ℕ} (contents >>= λ (made : Contents × List ℕ). Ok (module_of config so_far made.0 flag, made.1))
    (λ drawn. HasMember groups so_far.spaces.funcs drawn.0)
whole_ended config groups so_far flag (Ok made) same = record {
  types = ap (λ (space : GroupedTypes). space.types) same;
  groups_are = ap (λ (space : GroupedTypes). space.groups) same;
  funcs_are = refl;
}
whole_ended config groups so_far flag (Err e) same = tt

member_ended : (config : Config) (groups : List (List SubType)) (made : EntitySpaces × Definitions) (flag : Bool)
    (exports : Result (List Export × List ℕ) Why)
    → IfOk (then_with (λ exports. record (with_entities groups made) { exports = exports }) (in_full exports) >>= λ
    (exported : ModuleSoFar × List ℕ). whole_at config flag exported.0 exported.1) (λ drawn. HasMember groups made.0.funcs drawn.0)
member_ended config groups made flag (Ok drawn) =
    let whole : ModuleSoFar = record (with_entities groups made) { exports = drawn.0 } in
    whole_ended config groups whole flag (after_exports_at config whole.types.types (imported_spaces (flattened whole.groups)) whole.spaces
    (exports_of config whole) drawn.1) refl
member_ended config groups made flag (Err why) = tt

member_reached : (distinct : Bool) (config : Config) (groups : List (List SubType)) (funcs piece after : List ℕ) → IsSanitized config
    → HasNoShapes config → HasNoMinimums config → IsInFamily config groups funcs → SpellsMember config groups funcs piece
    → IfOk (module_at distinct config (piece ++ after)) (λ drawn. HasMember groups funcs drawn.0)
member_reached distinct config groups funcs piece after sanitized none least member h =
    let read = member_read distinct config groups funcs piece after sanitized none least member h in
    rw read.1 (following_so (λ (drawn : EntitiesRead). drawn.0.0.funcs ≡ funcs)
    (λ (drawn : ModuleParts × List ℕ). HasMember groups funcs drawn.0) (after_funcs_at config (space_of groups).types funcs after) _
    (same_funcs config (space_of groups).types funcs after)
    (λ drawn same.
    let so_far = with_entities groups drawn.0 in
    let ended = member_ended config groups drawn.0 read.0 (exports_at config so_far.types.types so_far.spaces (size_so_far config so_far)
    drawn.1) in
    rw (freely_exported config so_far drawn.1 none.module_shape none.exports)
    (subst (λ (those : List ℕ). IfOk (exported_for config None None so_far drawn.1 >>= λ (exported : ModuleSoFar × List ℕ). whole_at
    config read.0 exported.0 exported.1) (λ (made : ModuleParts × List ℕ). HasMember groups those made.0)) same ended)))

-- contents have these passive data, and no export, start or element segment
record IsBare (passive : List (List ℕ)) (contents : Contents) : Type 0 where
  exports : contents.exports ≡ []
  start : contents.start ≡ None
  elems : contents.segments.elems ≡ []
  data_segments : contents.segments.data_segments ≡ map (λ bytes. passive_data bytes) passive

segments_read : (config : Config) (types : List SubType) (imported spaces : EntitySpaces) (passive : List (List ℕ)) (piece after : List ℕ)
    → HasNoMinimums config → spaces.tables ≡ [] → spaces.memories ≡ [] → SpellsSegments config passive piece
    → all_segments_at config types imported spaces (piece ++ after)
    ≡ Ok (record { elems = []; data_segments = map (λ bytes. passive_data bytes) passive }, after)
unfolding all_segments_at
segments_read config types imported spaces passive piece after least tables memories h =
    let scope = segment_scope config types imported spaces in
    rw (
      joined_parts h after,
      elements_none config scope spaces.tables [] h.first (h.second ++ after) (least counts.ElementSegments) tables
          (record { none = refl; spelled = h.is_first }),
      data_read config scope spaces.memories (map (λ bytes. passive_data bytes) passive) h.second after (least counts.DataSegments) memories
          (record { lists = passive; are = refl; spelled = h.is_second }),
    ) refl

-- the bytes after the exports
abbrev SpellsAfterExports : Config → List SubType → List ℕ → List (List ℕ) → List ℕ → Type 0
SpellsAfterExports config types funcs passive = Joined (Where (length types == 0) SpellsAnyByte)
    (Joined (SpellsNoStart config types funcs) (SpellsSegments config passive))

contents_read : (config : Config) (types : List SubType) (imported spaces : EntitySpaces) (made : Exports) (passive : List (List ℕ))
    (piece after : List ℕ) → HasNoMinimums config → made.exports ≡ []
    → spaces.tables ≡ [] → spaces.memories ≡ [] → SpellsAfterExports config types spaces.funcs passive piece
    → IfOk (after_exports_at config types imported spaces made (piece ++ after)) (λ drawn. IsBare passive drawn.0)
unfolding after_exports_at
contents_read config types imported spaces made passive piece after least exports tables memories h =
    let start = h.is_second in
    let after_flag = h.second ++ after in
    rw (
      joined_parts h after,
      flag_read (length types) h.first after_flag h.is_first,
      joined_parts start after,
      start_none config types spaces.funcs start.first (start.second ++ after) start.is_first,
      segments_read config types imported spaces passive start.second after least tables memories start.is_second,
    ) (record { exports = exports; start = refl; elems = refl; data_segments = refl })

-- globals and their initialisers
abbrev Listing : Type 0
Listing = List GlobalType × List (List ConstInstr)

-- no table and no memory, globals of these numbers, and these bytes left
record AreNumbered (numbers : List ℤ) (drawn : EntitiesRead) (after : List ℕ) : Type 0 where
  tables : drawn.0.0.tables ≡ []
  memories : drawn.0.0.memories ≡ []
  globals : drawn.0.0.globals ≡ map (λ number. mutable_i32) numbers
  initials : map (λ (one : ℕ × List ConstInstr). one.1) drawn.0.1.globals ≡ map (λ number. I32Const number ∷ []) numbers
  left : drawn.1 ≡ after

-- the globals that were drawn if they and their initialisers are these
record AreDrawn (listed : Listing) (after : List ℕ) (read : Result GlobalsRead Error) : Type 0 where
  drawn : GlobalsRead
  is : read ≡ Ok drawn
  globals : drawn.0.0 ≡ listed.0
  initials : map (λ (one : ℕ × List ConstInstr). one.1) drawn.0.1 ≡ listed.1
  left : drawn.1 ≡ after

drawn_by : (listed : Listing) (after : List ℕ) (read : Result GlobalsRead Error)
    → listed_of read ≡ Ok (listed, after) → AreDrawn listed after read
drawn_by listed after (Ok drawn) is =
    let same : ((drawn.0.0, map (λ (one : ℕ × List ConstInstr). one.1) drawn.0.1), drawn.1) ≡ (listed, after) = cc in
    record {
      drawn = drawn;
      is = refl;
      globals = ap (λ (read : Listing × List ℕ). read.0.0) same;
      initials = ap (λ (read : Listing × List ℕ). read.0.1) same;
      left = ap (λ (read : Listing × List ℕ). read.1) same;
    }
drawn_by listed after (Err e) is = cc

-- without tables and memories, the entities are the functions and these globals
entities_are : (config : Config) (types : List SubType) (funcs bytes after_tables after_memories : List ℕ) (globals : GlobalsRead)
    → tables_at config (scope_over types funcs 0 []) [] [] bytes ≡ Ok (([], []), after_tables) → memories_at config [] after_tables
    ≡ ([], after_memories)
    → globals_at config (scope_over types funcs 0 []) [] [] after_memories ≡ Ok globals
    → after_funcs_at config types funcs bytes ≡ Ok (entities_of funcs (([], []), after_tables) ([], after_memories) globals)
entities_are config types funcs bytes after_tables after_memories globals no_table no_memory is = rw (no_table, no_memory, is) refl

entities_read : (config : Config) (types : List SubType) (funcs : List ℕ) (numbers : List ℤ) (tables memories globals after : List ℕ)
    → HasNoMinimums config → SpellsNone config.max_tables tables → SpellsNone config.max_memories memories
    → Listed (SpellsGlobal config) config.max_globals numbers globals
    → (drawn : EntitiesRead) × (after_funcs_at config types funcs (tables ++ (memories ++ (globals ++ after))) ≡ Ok drawn)
    × AreNumbered numbers drawn after
entities_read config types funcs numbers tables memories globals after least no_table no_memory h =
    let standing = scope_over types funcs 0 [] in
    let none = no_table_read config standing [] [] tables (memories ++ (globals ++ after)) (least counts.Tables) refl no_table in
    let no_memories = no_memory_read config [] [] memories (globals ++ after) (least counts.Memories) refl
    (record { none = refl; spelled = no_memory }) in
    let listed : Listing = (map (λ number. mutable_i32) numbers, map (λ number. I32Const number ∷ []) numbers) in
    let made = drawn_by listed after (globals_at config standing [] [] (globals ++ after))
    (listed_read config standing (least counts.Globals) listed globals after
    (record { numbers = numbers; types = refl; initials = refl; spelled = h })) in
    let given = made.drawn in (
      entities_of funcs (([], []), memories ++ (globals ++ after)) ([], globals ++ after) given,
      entities_are config types funcs (tables ++ (memories ++ (globals ++ after))) (memories ++ (globals ++ after)) (globals ++ after) given
          none no_memories made.is,
      record { tables = refl; memories = refl; globals = made.globals; initials = made.initials; left = made.left },
    )

-- without shapes, there is no export if the bytes spell none
no_export_made : (config : Config) (so_far : ModuleSoFar) (piece after : List ℕ) → HasNoShapes config → HasNoMinimums config
    → config.export_everything ≡ false → SpellsNone config.max_exports piece
    → exported_at config so_far (piece ++ after) ≡ Ok (record so_far { exports = [] }, after)
no_export_made config so_far piece after none least some h =
    let size = size_so_far config so_far in
    rw (
      freely_exported config so_far (piece ++ after) none.module_shape none.exports,
      exports_free config so_far.types.types so_far.spaces size (piece ++ after) some,
      no_export_read config so_far.types.types so_far.spaces size [] piece after (least counts.Exports)
          (record { none = refl; spelled = h }),
    ) refl

rest_ended : (config : Config) (groups : List (List SubType)) (numbers : List ℤ) (passive : List (List ℕ)) (drawn : EntitiesRead)
    (after : List ℕ) (flag : Bool) (contents : Result (Contents × List ℕ) Error)
    → AreNumbered numbers drawn after → IfOk contents (λ made. IsBare passive made.0)
    → IfOk {T = ModuleParts × List ℕ}
    (contents >>= λ (made : Contents × List ℕ). Ok (module_of config (with_entities groups drawn.0) made.0 flag, made.1))
    (λ made. HasRest numbers passive made.0)
rest_ended config groups numbers passive drawn after flag (Ok made) numbered bare = record {
  tables = numbered.tables;
  memories = numbered.memories;
  globals = numbered.globals;
  initials = numbered.initials;
  exports = bare.exports;
  start = bare.start;
  elems = bare.elems;
  data_segments = bare.data_segments;
}
rest_ended config groups numbers passive drawn after flag (Err e) numbered bare = tt

-- the module of these entities and of bytes that spell nothing but passive data after them
rest_held : (config : Config) (groups : List (List SubType)) (numbers : List ℤ) (passive : List (List ℕ)) (drawn : EntitiesRead)
    (flag : Bool) (piece after later : List ℕ)
    → HasNoMinimums config → AreNumbered numbers drawn later → SpellsAfterExports config (space_of groups).types drawn.0.0.funcs passive
    piece
    → IfOk (whole_at config flag (record (with_entities groups drawn.0) { exports = [] }) (piece ++ after))
    (λ made. HasRest numbers passive made.0)
rest_held config groups numbers passive drawn flag piece after later least numbered h =
    let types = (space_of groups).types in
    let whole : ModuleSoFar = record (with_entities groups drawn.0) { exports = [] } in
    let bare = contents_read config types nothing drawn.0.0 (exports_of config whole) passive piece after least refl numbered.tables
    numbered.memories h in
    rest_ended config groups numbers passive drawn later flag (after_exports_at config types nothing drawn.0.0 (exports_of config whole)
    (piece ++ after)) numbered bare

-- the same for bytes that produce these entities, and spell no export after them
rest_drawn : (config : Config) (groups : List (List SubType)) (funcs bytes : List ℕ) (numbers : List ℤ) (passive : List (List ℕ))
    (drawn : EntitiesRead) (flag : Bool) (first second after : List ℕ)
    → HasNoShapes config → HasNoMinimums config → config.export_everything ≡ false → AreNumbered numbers drawn (first ++ (second ++ after))
    → SpellsNone config.max_exports first
    → SpellsAfterExports config (space_of groups).types drawn.0.0.funcs passive second → after_funcs_at config (space_of groups).types funcs
    bytes ≡ Ok drawn
    → IfOk (after_funcs_at config (space_of groups).types funcs bytes >>= λ (drawn : EntitiesRead). ending_at config flag
    (with_entities groups drawn.0) drawn.1) (λ made. HasRest numbers passive made.0)
rest_drawn config groups funcs bytes numbers passive drawn flag first second after none least some numbered no_export h is =
    rw (is, numbered.left, no_export_made config (with_entities groups drawn.0) first (second ++ after) none least some no_export)
    (rest_held config groups numbers passive drawn flag second after (first ++ (second ++ after)) least numbered h)

rest_reached : (distinct : Bool) (config : Config) (groups : List (List SubType)) (funcs : List ℕ) (numbers : List ℤ)
    (passive : List (List ℕ)) (piece rest after : List ℕ)
    → IsSanitized config → HasNoShapes config → HasNoMinimums config → config.export_everything ≡ false → IsInFamily config groups funcs
    → SpellsMember config groups funcs piece
    → SpellsRest config groups funcs numbers passive rest → IfOk (module_at distinct config (piece ++ (rest ++ after)))
    (λ drawn. HasRest numbers passive drawn.0)
unfolding SpellsRest
rest_reached distinct config groups funcs numbers passive piece rest after sanitized none least some member spelled h =
    let types = (space_of groups).types in
    let memories = h.is_second in
    let globals = memories.is_second in
    let exports = globals.is_second in
    let after_exports = exports.second ++ after in
    let later = exports.first ++ after_exports in
    let read = member_read distinct config groups funcs piece (rest ++ after) sanitized none least member spelled in
    let parts : rest ++ after ≡ h.first ++ (memories.first ++ (globals.first ++ later)) =
    rw (joined_parts h after, joined_parts memories after, joined_parts globals after, joined_parts exports after) refl in
    let (drawn, is, numbered) =
    entities_read config types funcs numbers h.first memories.first globals.first later least h.is_first memories.is_first
    globals.is_first in
    let same = same_funcs config types funcs (h.first ++ (memories.first ++ (globals.first ++ later))) in
    let own : drawn.0.0.funcs ≡ funcs = subst (λ (read : Result EntitiesRead Error). IfOk read (λ one. one.0.0.funcs ≡ funcs)) is same in
    let spelled_after : SpellsAfterExports config types drawn.0.0.funcs passive exports.second = rw own exports.is_second in
    let drawn_there : after_funcs_at config types funcs (rest ++ after) ≡ Ok drawn = rw parts is in
    rw read.1 (rest_drawn config groups funcs (rest ++ after) numbers passive drawn read.0 exports.first exports.second after none least
    some numbered exports.is_first
    spelled_after drawn_there)

-- a property of every module of these bytes, apart from interesting values, holds for the result
answered : (Holds : ModuleParts → Type 0) (distinct : Bool) (config : Config) (bytes left : List ℕ) (answer : Result ModuleParts Error)
    → ((m : ModuleParts) → Holds (as_drawn m) → Holds m) → Returns is_memory (λ m. (as_drawn m, left)) answer
    (module_at distinct config bytes)
    → IfErr answer (λ e. e ≡ errors.Memory) → IfOk (module_at distinct config bytes) (λ drawn. Holds drawn.0)
    → MatchResult answer Holds (λ e. e ≡ errors.Memory)
answered Holds distinct config bytes left (Ok m) keeps given memory held =
    keeps m (subst (λ (read : Result (ModuleParts × List ℕ) Error). IfOk read (λ drawn. Holds drawn.0)) given held)
answered Holds distinct config bytes left (Err e) keeps given memory held = memory

some_at_all : {A : Type 0} (given : Option A) → IsSome given → IsSomeAnd given (λ _. ⊤)
some_at_all (Some x) h = tt
some_at_all None h = cc

-- a configuration for which lists can be spelled requires nothing impossible
spellable_asks : (config : Config) (groups : List (List SubType)) (funcs : List ℕ) → IsSpellable config groups funcs
    → AsksNothingImpossible config
spellable_asks config groups funcs fit = record {
  may_give = record { passes = fit.passes; shapes_valid = no_shapes_valid config fit.no_shapes };
  no_minimums = fit.no_minimums;
  not_everything = fit.not_everything;
  nullable = λ h. none_used _ config h.0 fit.no_shapes h.1;
  several = λ h. absurd (none_used (λ _. ⊤) config h.0 fit.no_shapes (some_at_all _ h.1));
}

module _ {distinct : Bool} {config : Config} {bytes left : List ℕ} {answer : Result ModuleParts Error} (sanitized : IsSanitized config)
    (given : IsGiven distinct config bytes answer left)
    (needless : AsksNothingImpossible config → IfErr answer (λ e. e ≡ errors.Memory)) where
  pub members_reached : ReachesMembers config bytes answer
  members_reached = λ groups funcs remaining h.
      let fit = h.spellable in
      let asks = spellable_asks config groups funcs fit in
      let held = member_reached distinct config groups funcs h.piece remaining sanitized fit.no_shapes fit.no_minimums fit.member
      h.spelled in
      answered (HasMember groups funcs) distinct config bytes left answer
      (λ m has. record { types = has.types; groups_are = has.groups_are; funcs_are = has.funcs_are }) (given.exact asks.may_give)
      (needless asks) (rw h.parts held)

  pub rests_reached : ReachesRests config bytes answer
  rests_reached = λ groups funcs remaining numbers passive h r.
      let fit = h.spellable in
      let asks = spellable_asks config groups funcs fit in
      let held = rest_reached distinct config groups funcs numbers passive h.piece r.piece r.after sanitized fit.no_shapes fit.no_minimums
      fit.not_everything fit.member h.spelled r.spelled in
      answered (HasRest numbers passive) distinct config bytes left answer (λ m has. record {
        tables = has.tables;
        memories = has.memories;
        globals = has.globals;
        initials = has.initials;
        exports = has.exports;
        start = has.start;
        elems = has.elems;
        data_segments = has.data_segments;
      }) (given.exact asks.may_give) (needless asks) (rw (h.parts, r.parts) held)
