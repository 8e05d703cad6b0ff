-- The functions that the parts of a module name, and the types of its element segments.
use Rattle.smith_check.proofs.Common.{[], ap, canonical_index, ElementSegment, flat_map, Instr, List, map, refl, renamed_ref, sym}
use Rattle.smith_check.proofs.Common.{syntax_of, ℕ, ◌++◌, ◌∙◌, ◌∷◌, ◌≡◌}
use Rattle.std.proofs.Common.{append_assoc}
use Rattle.std.proofs.lemmas.List.Folds.{flat_map-map}
use Rattle.std.proofs.lemmas.Simd.{map-map}
use Rattle.smith_types.specs.Syntax.entity_type.ExportKind.{ExportKind}
use Rattle.smith_types.specs.Syntax.entity_type.GlobalType.{GlobalType}
use Rattle.smith_types.specs.Syntax.entity_type.TableType.{TableType}
use Rattle.smith_binary_read.specs.declared.exports.Export.{Export}
use Rattle.smith_decode.specs.Data.{Data}
use Rattle.smith_decode.specs.DataReadings.{mode_view, segment_view}
use Rattle.smith_decode.specs.ElementReadings.{element_view}
use Rattle.smith_decode.specs.Elements.{Elem, func_items}
use Rattle.smith_decode.specs.Modules.{export_triple, global_pair, table_pair}
use Rattle.smith_decode.specs.declared.data.DataSegment.{DataSegment}
use Rattle.smith_decode.specs.declared.definitions.GlobalDefinition.{GlobalDefinition}
use Rattle.smith_decode.specs.declared.definitions.TableDefinition.{TableDefinition}
use Rattle.smith_decode.specs.declared.modules.Module.{Module}
use Rattle.smith_check.specs.References.{exported_by, named_by_data_mode, named_by_element, named_in, references_of}
use Rattle.smith_check.specs.ValidPrograms.{element_types}

-- the expressions of functions name these functions
pub named_in_functions : (functions : List ℕ) → flat_map named_in (func_items functions) ≡ functions
named_in_functions [] = refl
named_in_functions (function ∷ functions) = ap (λ (fs : List ℕ). function ∷ fs) (named_in_functions functions)

-- the functions that the parts of a decoded module name
abbrev pub exported : Module → List ℕ
exported m = flat_map (λ (item : Export). exported_by item.kind item.index) m.exports

abbrev pub by_tables : Module → List ℕ
by_tables m = flat_map (λ (table : TableDefinition). named_in table.initial) m.tables

abbrev pub by_globals : Module → List ℕ
by_globals m = flat_map (λ (global : GlobalDefinition). named_in global.initial) m.globals

abbrev pub by_elements : Module → List ℕ
by_elements m = flat_map (λ (segment : ElementSegment). named_by_element (element_view segment)) m.elements

abbrev pub by_datas : Module → List ℕ
by_datas m = flat_map (λ (segment : DataSegment). named_by_data_mode (mode_view segment.mode)) m.datas

references_same : (m : Module) → exported m ++ (by_tables m ++ (by_globals m ++ (by_elements m ++ by_datas m)))
    ≡ references_of (syntax_of m)
references_same m =
    let exports : exported m ≡ flat_map (λ (item : List ℕ × ExportKind × ℕ). exported_by item.1 item.2) (map export_triple m.exports) =
    sym (flat_map-map (λ (item : List ℕ × ExportKind × ℕ). exported_by item.1 item.2) export_triple m.exports) in
    let tables : by_tables m ≡ flat_map (λ (table : TableType × List Instr). named_in table.1) (map table_pair m.tables) =
    sym (flat_map-map (λ (table : TableType × List Instr). named_in table.1) table_pair m.tables) in
    let globals : by_globals m ≡ flat_map (λ (global : GlobalType × List Instr). named_in global.1) (map global_pair m.globals) =
    sym (flat_map-map (λ (global : GlobalType × List Instr). named_in global.1) global_pair m.globals) in
    let elements : by_elements m ≡ flat_map named_by_element (map element_view m.elements) =
    sym (flat_map-map named_by_element element_view m.elements) in
    let datas : by_datas m ≡ flat_map (λ (segment : Data). named_by_data_mode segment.mode) (map segment_view m.datas) =
    sym (flat_map-map (λ (segment : Data). named_by_data_mode segment.mode) segment_view m.datas) in
    λ i. exports i ++ (tables i ++ (globals i ++ (elements i ++ datas i)))

-- the types of the element segments of a decoded module
pub element_types_same : (indices : List ℕ) (m : Module)
    → map (λ (segment : ElementSegment). renamed_ref (canonical_index indices) segment.ty) m.elements
    ≡ element_types indices (syntax_of m).elems
element_types_same indices m =
    sym (map-map (λ (segment : Elem). renamed_ref (canonical_index indices) segment.ty) element_view m.elements)

five : (e t g l d none first second third fourth last : List ℕ) → none ≡ [] → first ≡ none ++ e → second ≡ first ++ t → third ≡ second ++ g
    → fourth ≡ third ++ l → last ≡ fourth ++ d → last ≡ e ++ (t ++ (g ++ (l ++ d)))
five e t g l d none first second third fourth last h0 h1 h2 h3 h4 h5 = rw (h5, h4, h3, h2, h1, h0) (simp append_assoc)

-- the functions of the parts, one part after another
pub all_named : (m : Module) (none first second third fourth last : List ℕ) → none ≡ [] → first ≡ none ++ exported m
    → second ≡ first ++ by_tables m → third ≡ second ++ by_globals m → fourth ≡ third ++ by_elements m → last ≡ fourth ++ by_datas m
    → last ≡ references_of (syntax_of m)
all_named m none first second third fourth last h0 h1 h2 h3 h4 h5 =
    five (exported m) (by_tables m) (by_globals m) (by_elements m) (by_datas m) none first second third fourth last h0 h1 h2 h3 h4 h5
    ∙ references_same m
