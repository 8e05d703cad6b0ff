-- Index spaces by canonical indices.
use Rattle.smith_check_module.proofs.Common.{[], ap, canonical_index, EntitySpaces, Features, global_pair, GlobalType, imported_spaces}
use Rattle.smith_check_module.proofs.Common.{Instr, length, length-append, length-map, List, map, refl, SubType, sym, syntax_of, table_pair}
use Rattle.smith_check_module.proofs.Common.{TableType, tag_index, ℕ, ◌++◌, ◌+◌, ◌∙◌, ◌∷◌, ◌≡◌}
use Rattle.std.proofs.lemmas.List.{map-append}
use Rattle.smith_decode.specs.declared.definitions.GlobalDefinition.{GlobalDefinition}
use Rattle.smith_decode.specs.declared.definitions.TableDefinition.{TableDefinition}
use Rattle.smith_decode.specs.declared.modules.Module.{Module}
use Rattle.smith_check_module.specs.CanonicalModules.{renamed_global, renamed_table}
use Rattle.smith_check_module.specs.Contexts.{context_in, spaces_in, types_in}
use Rattle.smith_check_module.specs.Judges.{global_type, table_type}

pub two_mapped : {A B : Type 0} (f : A → B) (xs ys : List A) (none first all : List B) → none ≡ [] → first ≡ none ++ map f xs
    → all ≡ first ++ map f ys → all ≡ map f (xs ++ ys)
two_mapped f xs ys none first all nothing is are =
    are ∙ ap (λ (zs : List _). zs ++ map f ys) (is ∙ ap (λ (zs : List _). zs ++ map f xs) nothing) ∙ sym (map-append f xs ys)

table_types : (tables : List TableDefinition)
    → map table_type tables ≡ map (λ (table : TableType × List Instr). table.0) (map table_pair tables)
table_types [] = refl
table_types (table ∷ tables) = ap (λ (ts : List TableType). table.ty ∷ ts) (table_types tables)

global_types : (globals : List GlobalDefinition)
    → map global_type globals ≡ map (λ (global : GlobalType × List Instr). global.0) (map global_pair globals)
global_types [] = refl
global_types (global ∷ globals) = ap (λ (gs : List GlobalType). global.ty ∷ gs) (global_types globals)

module _ (indices : List ℕ) (m : Module) (imported made : EntitySpaces)
    (same : imported ≡ imported_spaces (syntax_of m).imports) where
  pub spaces_same : made.tags ≡ map (canonical_index indices) (imported.tags ++ map tag_index m.tags)
      → made.funcs ≡ map (canonical_index indices) (imported.funcs ++ m.functions)
      → made.tables ≡ map (renamed_table (canonical_index indices)) (imported.tables ++ map table_type m.tables)
      → made.memories ≡ imported.memories ++ m.memories
      → made.globals ≡ map (renamed_global (canonical_index indices)) (imported.globals ++ map global_type m.globals)
      → made ≡ spaces_in indices (syntax_of m)
  spaces_same tags funcs tables memories globals =
      let imports = imported_spaces (syntax_of m).imports in
      let all_tags : made.tags ≡ (spaces_in indices (syntax_of m)).tags =
      tags ∙ ap (λ (s : EntitySpaces). map (canonical_index indices) (s.tags ++ map tag_index m.tags)) same in
      let all_funcs : made.funcs ≡ (spaces_in indices (syntax_of m)).funcs =
      funcs ∙ ap (λ (s : EntitySpaces). map (canonical_index indices) (s.funcs ++ m.functions)) same in
      let all_tables : made.tables ≡ (spaces_in indices (syntax_of m)).tables =
      tables ∙ ap (λ (s : EntitySpaces). map (renamed_table (canonical_index indices)) (s.tables ++ map table_type m.tables)) same
      ∙ ap (λ (ts : List TableType). map (renamed_table (canonical_index indices)) (imports.tables ++ ts)) (table_types m.tables) in
      let all_memories : made.memories ≡ (spaces_in indices (syntax_of m)).memories =
      memories ∙ ap (λ (s : EntitySpaces). s.memories ++ m.memories) same in
      let all_globals : made.globals ≡ (spaces_in indices (syntax_of m)).globals =
      globals ∙ ap (λ (s : EntitySpaces). map (renamed_global (canonical_index indices)) (s.globals ++ map global_type m.globals)) same
      ∙ ap (λ (gs : List GlobalType). map (renamed_global (canonical_index indices)) (imports.globals ++ gs)) (global_types m.globals) in
      λ i. record {
        tags = all_tags i;
        funcs = all_funcs i;
        tables = all_tables i;
        memories = all_memories i;
        globals = all_globals i;
      }

  -- the context of the code is that of the module
  pub context_same : (features : Features) (types : List SubType) (funcs : List ℕ) (globals : List GlobalType)
      (imported_funcs imported_globals : ℕ) → types ≡ types_in indices (syntax_of m) → made ≡ spaces_in indices (syntax_of m)
      → funcs ≡ made.funcs → globals ≡ made.globals → imported_funcs ≡ length imported.funcs → imported_globals ≡ length imported.globals
      → (record {
        features = features;
        types = types;
        funcs = funcs;
        globals = globals;
        imported_funcs = imported_funcs;
        imported_globals = imported_globals;
        visible = 0;
      }) ≡ context_in features indices (syntax_of m)
  context_same features types funcs globals imported_funcs imported_globals typed spaces fs gs nf ng =
      let all_funcs : funcs ≡ (spaces_in indices (syntax_of m)).funcs = fs ∙ ap (λ (s : EntitySpaces). s.funcs) spaces in
      let all_globals : globals ≡ (spaces_in indices (syntax_of m)).globals = gs ∙ ap (λ (s : EntitySpaces). s.globals) spaces in
      let count_funcs : imported_funcs ≡ length (imported_spaces (syntax_of m).imports).funcs =
      nf ∙ ap (λ (s : EntitySpaces). length s.funcs) same in
      let count_globals : imported_globals ≡ length (imported_spaces (syntax_of m).imports).globals =
      ng ∙ ap (λ (s : EntitySpaces). length s.globals) same in
      λ i. record {
        features = features;
        types = typed i;
        funcs = all_funcs i;
        globals = all_globals i;
        imported_funcs = count_funcs i;
        imported_globals = count_globals i;
        visible = 0;
      }

pub globals_counted : (indices : List ℕ) (m : Module) (globals : List GlobalType) → globals ≡ (spaces_in indices (syntax_of m)).globals
    → length globals ≡ length (imported_spaces (syntax_of m).imports).globals + length m.globals
globals_counted indices m globals same =
    let renamed : length globals ≡ length ((imported_spaces (syntax_of m).imports).globals
    ++ map (λ (global : GlobalType × List Instr). global.0) (map global_pair m.globals)) =
    ap (λ (gs : List GlobalType). length gs) same ∙ length-map _ (renamed_global (canonical_index indices)) in
    renamed ∙ length-append (imported_spaces (syntax_of m).imports).globals _
    ∙ ap (λ (n : ℕ). length (imported_spaces (syntax_of m).imports).globals + n)
    (length-map (map global_pair m.globals) (λ (global : GlobalType × List Instr). global.0) ∙ length-map m.globals global_pair)
