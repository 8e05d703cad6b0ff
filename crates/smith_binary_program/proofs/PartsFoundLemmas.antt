-- What is written for a valid program is read as the parts of a module with the forms of enabled features alone.
use Rattle.smith_binary_program.proofs.Common.{[], All, All-map, ap, as_expr, Body, ConstInstr, Contains, contents_of, Features, GlobalType}
use Rattle.smith_binary_program.proofs.Common.{inl, inr, is_filled, IsDataValid, IsElementSegmentValid, IsExprEnabled, IsGlobalTypeEnabled}
use Rattle.smith_binary_program.proofs.Common.{IsGroupEnabled, IsImportGroupEnabled, IsMemoryTypeEnabled, IsTrue, IsUnsigned, IsValid}
use Rattle.smith_binary_program.proofs.Common.{IsValidProgram, Joined, length, List, map, module_features, ModuleParts, None, Option, refl}
use Rattle.smith_binary_program.proofs.Common.{segment_context, Some, subst, sym, TableType, zip, ℕ, ◌∷◌, ◌≡◌}
use Rattle.std.proofs.Common.{◌-◌}
use Rattle.smith_binary.specs.Pieces.{IsList}
use Rattle.smith_types.specs.Syntax.entity_type.ExportKind.{ExportKind}
use Rattle.smith_binary_sections.specs.Data.{IsDataWritten}
use Rattle.smith_binary_sections.specs.Definitions.{IsGlobal, IsTableWritten, initialised_global, initialised_table}
use Rattle.smith_binary_sections.specs.Elements.{IsElemWritten}
use Rattle.smith_binary_sections.specs.Entities.{IsMemoryType, IsTagType}
use Rattle.smith_binary_sections.specs.Exports.{IsExport}
use Rattle.smith_binary_sections.specs.Imports.{IsImportGroup}
use Rattle.smith_binary_sections.specs.Instructions.{IsIndex}
use Rattle.smith_binary_sections.specs.Types.{IsRecGroupWritten}
use Rattle.smith_binary_sections.proofs.SpelledFormLemmas.{group_spelled, table_spelled}
use Rattle.smith_binary_law.proofs.SectionLemmas.{start_form, stated_viewed}
use Rattle.smith_binary_module.specs.Contents.{defined}
use Rattle.smith_binary_module.specs.Layout.{writes_data_count, writes_imports, writes_types}
use Rattle.smith_binary_module.specs.Written.{IsBack, IsFront, IsMiddle}
use Rattle.smith_types.specs.Syntax.composite_type.SubType.{SubType}
use Rattle.smith_binary_read.specs.declared.types.DeclaredType.{DeclaredType}
use Rattle.smith_binary_read.specs.DeclaredTypes.{IsDeclaredGroup}
use Rattle.smith_binary_read.specs.TagReadings.{IsTagDefinition}
use Rattle.smith_binary_read.proofs.TypeLemmas.{plain_group, without_further}
use Rattle.smith_binary_read.specs.EntityReadings.{IsExportItem}
use Rattle.smith_decode.specs.BodyReadings.{IsRunBody}
use Rattle.smith_decode.specs.DataReadings.{IsSegment}
use Rattle.smith_decode.specs.DefinitionReadings.{IsGlobalDefinition, IsTableDefinition}
use Rattle.smith_decode.specs.ElementReadings.{IsElementSegment}
use Rattle.smith_decode.specs.Forms.{AreFormsEnabled, IsBodyEnabled, IsCountEnabled, IsDataEnabled, IsElementEnabled, IsExportEnabled}
use Rattle.smith_decode.specs.Forms.{IsGlobalEnabled, IsKindEnabled, IsTableEnabled, IsTagEnabled}
use Rattle.smith_decode.specs.ModuleReadings.{Bodies, Counts, Functions, Globals, Memories, Parts, Starts, module_of}
use Rattle.smith_decode.specs.Modules.{IsStated}
use Rattle.smith_decode.specs.TypeGroups.{types_in}
use Rattle.smith_decode.proofs.ConstantLemmas.{global_as, table_as}
use Rattle.smith_decode.proofs.ModuleLemmas.{AreMemories, AreParts, AreStarts}
use Rattle.smith_program.specs.declared.program.Body.TheVariants as body
use Rattle.smith_binary_program.specs.Bodies.{AreBodiesOf, IsBodyOf}
use Rattle.smith_binary_program.proofs.BodiesFoundLemmas.{IsFunctionOn, body_found, functions_on}
use Rattle.smith_binary_program.proofs.FindsLemmas.{Finds, items_found, last_found, section_found, then_found, unjoined}
use Rattle.smith_binary_program.proofs.ModuleOnLemmas.{IsTableOn, exports_on, globals_on, groups_on}
use Rattle.smith_binary_program.proofs.ModuleOnLemmas.{memories_on, module_imports_on, tables_on, tags_on}
use Rattle.smith_binary_program.proofs.ReferenceFormLemmas.{and_first}
use Rattle.smith_binary_program.proofs.SegmentsFoundLemmas.{data_found, element_found}

-- the parts from a section on have the forms of enabled features alone
abbrev BodiesOn : Features → Bodies → Type 0
BodiesOn features x = All (IsBodyEnabled features) x.0 × (All (IsDataEnabled features) x.1.0 × Unit {0})

abbrev CountsOn : Features → Counts → Type 0
CountsOn features x = IsCountEnabled features x.0 × BodiesOn features x.1

abbrev StartsOn : Features → Starts → Type 0
StartsOn features x = Unit {0} × (All (IsElementEnabled features) x.1.0 × CountsOn features x.1.1)

abbrev GlobalsOn : Features → Globals → Type 0
GlobalsOn features x = All (IsGlobalEnabled features) x.0 × (All (IsExportEnabled features) x.1.0 × StartsOn features x.1.1)

abbrev MemoriesOn : Features → Memories → Type 0
MemoriesOn features x = All (IsMemoryTypeEnabled features) x.0 × (All (IsTagEnabled features) x.1.0 × GlobalsOn features x.1.1)

abbrev FunctionsOn : Features → Functions → Type 0
FunctionsOn features x = Unit {0} × (All (IsTableEnabled features) x.1.0 × MemoriesOn features x.1.1)

abbrev pub PartsOn : Features → Parts → Type 0
PartsOn features x =
    All (λ (group : List DeclaredType). IsGroupEnabled features (types_in group)) x.0
    × (All (IsImportGroupEnabled features) x.1.0 × FunctionsOn features x.1.1)

pub parts_enabled : (features : Features) (x : Parts) → PartsOn features x → AreFormsEnabled features (module_of x)
parts_enabled features x on =
    let functions = on.1.1 in
    let memories = functions.1.1 in
    let globals = memories.1.1 in
    let starts = globals.1.1 in
    let counts = starts.1.1 in
    let bodies = counts.1 in (
      All-map (IsGroupEnabled features) types_in x.0 on.0,
      (
        on.1.0,
        (
          functions.1.0,
          (
            memories.0,
            (
              memories.1.0,
              (
                globals.0,
                (
                  globals.1.0,
                  (
                    starts.1.0,
                    (
                      counts.0,
                      (
                        bodies.0,
                        (bodies.1.0, tt),
                      ),
                    ),
                  ),
                ),
              ),
            ),
          ),
        ),
      ),
    )

-- globals with their initialisers
abbrev IsInitialisedOn : Features → GlobalType × List ConstInstr → Type 0
IsInitialisedOn features global = IsGlobalTypeEnabled features global.0 × IsExprEnabled features (as_expr global.1)

initialised_on : (m : ModuleParts) → IsValid m → All (IsInitialisedOn (module_features m)) (contents_of m).globals
initialised_on m valid = All-map (IsInitialisedOn (module_features m)) initialised_global
    (zip (defined (length m.defined_globals) m.globals) m.defined_globals)
    (globals_on m (length m.globals - length m.defined_globals) valid)

-- items that are read as they are
as_itself : {A : Type 0} (Good : A → Type 0) (P : A → List ℕ → Type 0) (x : A) (piece : List ℕ) → Good x → P x piece
    → Finds Good P piece
as_itself Good P x piece on h = record { item = x; good = on; form = h }

-- the sections from the start section on
no_count : (features : Features) → IsCountEnabled features None
no_count features is = absurd cc

back_found : (m : ModuleParts) (bodies : List Body) → IsValidProgram m bodies → (Contains bodies body.Raw → ⊥) → (piece : List ℕ)
    → IsBack m (AreBodiesOf m.fuel_globals m.code bodies) piece → Finds (StartsOn (module_features m)) AreStarts piece
back_found m bodies valid drawn piece h =
    let features = module_features m in
    let context = segment_context m in
    then_found 8 None
    (λ p start. record { item = m.start; good = tt; form = start_form m.start start })
    (then_found 9 [] (items_found (is_filled m.elems) 9 (IsElementSegmentValid context m.tables) IsElemWritten (IsElementEnabled features)
    IsElementSegment
    (λ e p is one. element_found context m.tables valid.valid.counts.several_tables e p is one) m.elems valid.valid.elems)
    (then_found 12 None (section_found (writes_data_count m) 12 None (IsCountEnabled features) IsStated (IsUnsigned 32 (length m.datas))
    (no_count features) (λ is p count. record {
      item = Some (length m.datas);
      good = λ some. and_first m.config.bulk_memory_enabled (is_filled m.datas) is;
      form = stated_viewed.forth (length m.datas) p count;
    }))
    (then_found 10 [] (items_found (is_filled m.code) 10 (IsFunctionOn features m.fuel_globals) (IsBodyOf m.fuel_globals)
    (IsBodyEnabled features) IsRunBody
    (body_found features m.fuel_globals) (zip m.code bodies) (functions_on m bodies valid drawn))
    (λ p datas. last_found 11 [] p (items_found (is_filled m.datas) 11 (IsDataValid context m.memories) IsDataWritten
    (IsDataEnabled features) IsSegment
    (λ d q is one. data_found context m.memories valid.valid.counts.several_memories d q is one) m.datas valid.valid.data_segments p
    datas))))) piece h

-- the sections from the memory section on
middle_found : (m : ModuleParts) → IsValid m → {More : List ℕ → Type 0}
    → ((p : List ℕ) → More p → Finds (StartsOn (module_features m)) AreStarts p) → (piece : List ℕ) → Joined (IsMiddle m) More piece
    → Finds (MemoriesOn (module_features m)) AreMemories piece
middle_found m valid more piece h =
    let features = module_features m in
    let HasKind : List ℕ × ExportKind × ℕ → Type 0 = λ one. IsKindEnabled features one.1 in
    then_found 5 [] (items_found (is_filled (contents_of m).memories) 5 (IsMemoryTypeEnabled features) IsMemoryType
    (IsMemoryTypeEnabled features) IsMemoryType
    (as_itself (IsMemoryTypeEnabled features) IsMemoryType) (contents_of m).memories
    (memories_on m (length m.memories - m.num_defined_memories) valid))
    (λ p rest. then_found 13 [] (items_found (is_filled (contents_of m).tags) 13 (λ (tag : ℕ). IsTrue features.exceptions) IsTagType
    (IsTagEnabled features) IsTagDefinition
    (λ tag q on one. record { item = record { 0 = tag }; good = on; form = one }) (contents_of m).tags
    (tags_on m (length m.tags - m.num_defined_tags) valid))
    (λ q later. then_found 6 [] (items_found (is_filled m.defined_globals) 6 (IsInitialisedOn features) IsGlobal
    (IsGlobalEnabled features) IsGlobalDefinition
    (λ x r on one. record {
      item = record { ty = x.0; initial = as_expr x.1 };
      good = record { ty = on.0; initial = on.1 };
      form = global_as x r one;
    }) (contents_of m).globals (initialised_on m valid))
    (λ r last. then_found 7 [] (items_found (is_filled m.exports) 7 HasKind IsExport (IsExportEnabled features) IsExportItem
    (λ x s on one. record { item = record { name = x.0; kind = x.1; index = x.2 }; good = on; form = one }) m.exports
    (exports_on m valid)) more r last)
    q (unjoined later)) p (unjoined rest)) piece (unjoined h)

-- types without further supertypes
plain_types : (group : List SubType) → types_in (map without_further group) ≡ group
plain_types [] = refl
plain_types (t ∷ group) = ap (λ (more : List SubType). t ∷ more) (plain_types group)

-- all sections
table_good : (features : Features) (ty : TableType) (initial : Option (List ConstInstr)) → IsTableOn features (ty, initial)
    → IsTableEnabled features (record { ty = ty; initial = as_expr (initialised_table (ty, initial)).1 })
table_good features ty None on = record { ty = on.0; initial = inl refl }
table_good features ty (Some expression) on = record { ty = on.0; initial = inr on.1 }

front_found : (m : ModuleParts) → IsValid m → {More : List ℕ → Type 0}
    → ((p : List ℕ) → More p → Finds (MemoriesOn (module_features m)) AreMemories p) → (piece : List ℕ) → Joined (IsFront m) More piece
    → Finds (PartsOn (module_features m)) AreParts piece
front_found m valid more piece h =
    let features = module_features m in
    then_found 1 [] (items_found (writes_types m) 1 (IsGroupEnabled features) IsRecGroupWritten
    (λ (group : List DeclaredType). IsGroupEnabled features (types_in group)) IsDeclaredGroup
    (λ group p on one. record {
      item = map without_further group;
      good = subst (IsGroupEnabled features) (sym (plain_types group)) on;
      form = plain_group group p (group_spelled group p one);
    }) (contents_of m).types (groups_on m valid))
    (λ p rest. then_found 2 [] (items_found (writes_imports m) 2 (IsImportGroupEnabled features) IsImportGroup
    (IsImportGroupEnabled features) IsImportGroup
    (as_itself (IsImportGroupEnabled features) IsImportGroup) m.imports (module_imports_on m valid))
    (λ q later. then_found 3 [] (section_found (is_filled (contents_of m).functions) 3 [] (λ (x : List ℕ). Unit {0}) (IsList IsIndex)
    (IsList IsIndex (contents_of m).functions) tt
    (λ is s one. record { item = (contents_of m).functions; good = tt; form = one }))
    (λ r last. then_found 4 [] (items_found (is_filled m.defined_tables) 4 (IsTableOn features) IsTableWritten (IsTableEnabled features)
    IsTableDefinition
    (λ x s on one. record {
      item = record { ty = x.0; initial = as_expr (initialised_table x).1 };
      good = table_good features x.0 x.1 on;
      form = table_as (initialised_table x) s (table_spelled x s one);
    }) (zip (defined (length m.defined_tables) m.tables) m.defined_tables)
    (tables_on m (length m.tables - length m.defined_tables) valid)) more r last)
    q (unjoined later)) p (unjoined rest)) piece (unjoined h)

pub parts_found : (m : ModuleParts) (bodies : List Body) → IsValidProgram m bodies → (Contains bodies body.Raw → ⊥) → (piece : List ℕ)
    → Joined (IsFront m) (Joined (IsMiddle m) (IsBack m (AreBodiesOf m.fuel_globals m.code bodies))) piece
    → Finds (PartsOn (module_features m)) AreParts piece
parts_found m bodies valid drawn piece h =
    front_found m valid.valid (middle_found m valid.valid (back_found m bodies valid drawn)) piece h
