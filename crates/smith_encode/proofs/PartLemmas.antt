-- The items of a module that bytes spell all have spellings.
use Rattle.smith_encode.proofs.Common.{[], ap, arith, Body, body_view, Bool, Each, eqb, Instr, IsElem, IsList, IsModuleBinary, IsNestedExpr}
use Rattle.smith_encode.proofs.Common.{IsOptionalSection, items_view, length, List, list_all, map, Module, refl, segment_view, sym}
use Rattle.smith_encode.proofs.Common.{syntax_of, total, true, ℕ, ◌<◌, ◌^◌, ◌∙◌, ◌∷◌, ◌≡◌}
use Rattle.std.proofs.Common.{nat_lt, ◌&&◌}
use Rattle.std.proofs.Common.{length-append}
use Rattle.std.specs.Prelude.{replicate}
use Rattle.std.proofs.lemmas.Bool.{eq-eqb, lt-ltb}
use Rattle.std.proofs.lemmas.List.{length-map, length-replicate}
use Rattle.smith_binary_sections.specs.Codes.{locals_of}
use Rattle.smith_binary_sections.specs.Elements.Form.{first_funcs, passive_funcs, table_funcs, declared_funcs, first_items, passive_items}
use Rattle.smith_binary_sections.specs.Elements.Form.{table_items, declared_items}
use Rattle.smith_binary_sections.specs.Data.DataForm.{first_memory, no_memory, named_memory}
use Rattle.smith_binary_sections.specs.Elements.{Form}
use Rattle.smith_binary_sections.specs.Data.{DataForm}
use Rattle.smith_decode.specs.declared.bodies.LocalRun.{LocalRun}
use Rattle.smith_decode.specs.declared.data.DataMode.{DataMode}
use Rattle.smith_decode.specs.declared.data.DataMode.TheVariants as data_mode
use Rattle.smith_decode.specs.declared.data.DataSegment.{DataSegment}
use Rattle.smith_decode.specs.declared.definitions.GlobalDefinition.{GlobalDefinition}
use Rattle.smith_decode.specs.declared.definitions.TableDefinition.{TableDefinition}
use Rattle.smith_decode.specs.declared.elements.ElementItems.{ElementItems}
use Rattle.smith_decode.specs.declared.elements.ElementItems.TheVariants.{Functions, Expressions}
use Rattle.smith_decode.specs.declared.elements.ElementMode.{ElementMode}
use Rattle.smith_decode.specs.declared.elements.ElementMode.TheVariants as element_mode
use Rattle.smith_decode.specs.declared.elements.ElementSegment.{ElementSegment}
use Rattle.smith_binary_read.specs.declared.types.DeclaredType.{DeclaredType}
use Rattle.smith_binary_read.specs.DeclaredTypes.{IsDeclaredGroup}
use Rattle.smith_decode.specs.BodyReadings.{run_pair}
use Rattle.smith_decode.specs.TypeGroups.{declared_groups}
use Rattle.smith_decode.specs.Data.{IsData, IsInDataForm}
use Rattle.smith_decode.specs.Data as abstract_data
use Rattle.smith_decode.specs.DataReadings as data_segment
use Rattle.smith_decode.specs.Definitions.{IsTable, IsGlobal}
use Rattle.smith_decode.specs.ElementReadings.{element_view, mode_view}
use Rattle.smith_decode.specs.Elements.{Elem, func_items, IsInForm, IsItems, Mode}
use Rattle.smith_decode.specs.Elements.Mode.{passive, declared, active}
use Rattle.smith_decode.specs.Modules.{global_pair, IsFunctionBody, table_pair}
use Rattle.smith_encode.specs.Nesting.{is_nested}
use Rattle.smith_encode.specs.Spelled.{is_table_nested, is_global_nested, are_items_nested, is_element_mode_nested, is_element_nested}
use Rattle.smith_encode.specs.Spelled.{is_body_spelled, is_data_mode_nested, is_data_nested, are_parts_spelled}
use Rattle.smith_encode.specs.Spelled.{are_groups_spelled, is_group_spelled}
use Rattle.smith_encode.proofs.NestingLemmas.{nested_complete}
use Rattle.smith_encode.proofs.TypeLemmas.{groups_paired, groups_pass}

both : (x y : Bool) → x ≡ true → y ≡ true → (x && y) ≡ true
both x y one other = rw one other

-- a section of items
each_all : {A B : Type 0} (view : A → B) (P : B → List ℕ → Type 0) (passes : A → Bool)
    → ((x : A) (piece : List ℕ) → P (view x) piece → passes x ≡ true)
    → (xs : List A) (piece : List ℕ) → Each P (map view xs) piece → list_all passes xs ≡ true
unfolding Each
each_all view P passes item [] piece h = refl
each_all view P passes item (x ∷ xs) piece h =
    both (passes x) (list_all passes xs) (item x h.first h.is_first) (each_all view P passes item xs h.second h.is_second)

none_all : {A B : Type 0} (view : A → B) (passes : A → Bool) (xs : List A) → map view xs ≡ [] → list_all passes xs ≡ true
none_all view passes [] none = refl
none_all view passes (x ∷ xs) none = absurd cc

section_all : {A B : Type 0} (id : ℕ) (view : A → B) (P : B → List ℕ → Type 0) (passes : A → Bool)
    → ((x : A) (piece : List ℕ) → P (view x) piece → passes x ≡ true)
    → (xs : List A) (piece : List ℕ) → IsOptionalSection id (map view xs ≡ []) (IsList P (map view xs)) piece → list_all passes xs ≡ true
section_all id view P passes item xs piece (IsOptionalSection.present h) =
    let list = h.is_second.is_content in each_all view P passes item xs list.second list.is_second
section_all id view P passes item xs piece (IsOptionalSection.absent none empty) = none_all view passes xs none

-- expressions, tables and globals
expr_passes : (instructions : List Instr) (piece : List ℕ) → IsNestedExpr instructions piece → is_nested instructions ≡ true
expr_passes instructions piece h = nested_complete instructions [] h.0

table_passes : (table : TableDefinition) (piece : List ℕ) → IsTable (table_pair table) piece → is_table_nested table ≡ true
table_passes table piece (IsTable.initialised h) = expr_passes table.initial h.is_second.second h.is_second.is_second
table_passes table piece (IsTable.null is h) = rw is refl

global_passes : (global : GlobalDefinition) (piece : List ℕ) → IsGlobal (global_pair global) piece → is_global_nested global ≡ true
global_passes global piece h = expr_passes global.initial h.second h.is_second

-- element segments, by what they are in the abstract syntax
abbrev is_mode_nested : Mode → Bool
is_mode_nested passive = true
is_mode_nested declared = true
is_mode_nested (active table offset) = is_nested offset

abbrev is_elem_nested : Elem → Bool
is_elem_nested e = is_mode_nested e.mode && list_all is_nested e.items

mode_same : (mode : ElementMode) → is_mode_nested (mode_view mode) ≡ is_element_mode_nested mode
mode_same element_mode.Passive = refl
mode_same element_mode.Declared = refl
mode_same (element_mode.Active table offset) = refl

functions_nested : (functions : List ℕ) → list_all is_nested (func_items functions) ≡ true
functions_nested [] = refl
functions_nested (function ∷ functions) = functions_nested functions

items_same : (items : ElementItems) → list_all is_nested (items_view items) ≡ are_items_nested items
items_same (Functions functions) = functions_nested functions
items_same (Expressions items) = refl

each_pass : (items : List (List Instr)) (piece : List ℕ) → Each IsNestedExpr items piece → list_all is_nested items ≡ true
unfolding Each
each_pass [] piece h = refl
each_pass (item ∷ items) piece h =
    both (is_nested item) (list_all is_nested items) (expr_passes item h.first h.is_first) (each_pass items h.second h.is_second)

exprs_pass : (items : List (List Instr)) (piece : List ℕ) → IsItems items piece → list_all is_nested items ≡ true
exprs_pass items piece h = each_pass items h.second h.is_second

elem_passes : (form : Form) (e : Elem) (piece : List ℕ) → IsInForm form e piece → is_elem_nested e ≡ true
elem_passes first_funcs e piece h =
    ap is_elem_nested h.2 ∙ both (is_nested h.0) (list_all is_nested (func_items h.1)) (expr_passes h.0 h.3.first h.3.is_first)
    (functions_nested h.1)
elem_passes passive_funcs e piece h = ap is_elem_nested h.1 ∙ functions_nested h.0
elem_passes table_funcs e piece h =
    ap is_elem_nested h.3 ∙ both (is_nested h.1) (list_all is_nested (func_items h.2))
    (expr_passes h.1 h.4.is_second.first h.4.is_second.is_first) (functions_nested h.2)
elem_passes declared_funcs e piece h = ap is_elem_nested h.1 ∙ functions_nested h.0
elem_passes first_items e piece h =
    ap is_elem_nested h.2 ∙ both (is_nested h.0) (list_all is_nested h.1) (expr_passes h.0 h.3.first h.3.is_first)
    (exprs_pass h.1 h.3.second h.3.is_second)
elem_passes passive_items e piece h = ap is_elem_nested h.2 ∙ exprs_pass h.1 h.3.second h.3.is_second
elem_passes table_items e piece h =
    ap is_elem_nested h.4 ∙ both (is_nested h.1) (list_all is_nested h.3) (expr_passes h.1 h.5.is_second.first h.5.is_second.is_first)
    (exprs_pass h.3 h.5.is_second.is_second.second h.5.is_second.is_second.is_second)
elem_passes declared_items e piece h = ap is_elem_nested h.2 ∙ exprs_pass h.1 h.3.second h.3.is_second

element_passes : (segment : ElementSegment) (piece : List ℕ) → IsElem (element_view segment) piece → is_element_nested segment ≡ true
element_passes segment piece h =
    ap (λ (mode : Bool). mode && are_items_nested segment.items) (sym (mode_same segment.mode))
    ∙ ap (λ (items : Bool). is_mode_nested (mode_view segment.mode) && items) (sym (items_same segment.items))
    ∙ elem_passes h.form (element_view segment) h.spelled.second h.spelled.is_second

-- bodies
total_is : (runs : List LocalRun) → length (locals_of (map run_pair runs)) ≡ total runs
total_is [] = refl
total_is (run ∷ runs) =
    length-append (replicate run.count run.ty) (locals_of (map run_pair runs))
    ∙ omega (arith, length-replicate run.count run.ty, total_is runs)

body_passes : (body : Body) (piece : List ℕ) → IsFunctionBody (body_view body) piece → is_body_spelled body ≡ true
body_passes body piece h =
    let few : total body.locals < 2 ^ 32 = omega (arith, h.is_content.is_first.few, total_is body.locals) in
    both (nat_lt (total body.locals) (2 ^ 32)) (is_nested body.instructions) (lt-ltb (total body.locals) (2 ^ 32) few)
    (expr_passes body.instructions h.is_content.second h.is_content.is_second)

-- data segments
abbrev is_data_mode : abstract_data.DataMode → Bool
is_data_mode abstract_data.DataMode.passive = true
is_data_mode (abstract_data.DataMode.active memory offset) = is_nested offset

data_mode_same : (mode : DataMode) → is_data_mode (data_segment.mode_view mode) ≡ is_data_mode_nested mode
data_mode_same data_mode.Passive = refl
data_mode_same (data_mode.Active memory offset) = refl

form_passes : (form : DataForm) (segment : DataSegment) (piece : List ℕ) → IsInDataForm form (segment_view segment) piece
    → is_data_mode (data_segment.mode_view segment.mode) ≡ true
form_passes first_memory segment piece h = ap is_data_mode h.1 ∙ expr_passes h.0 h.2.first h.2.is_first
form_passes no_memory segment piece h = ap is_data_mode h.0
form_passes named_memory segment piece h = ap is_data_mode h.2 ∙ expr_passes h.1 h.3.is_second.first h.3.is_second.is_first

data_passes : (segment : DataSegment) (piece : List ℕ) → IsData (segment_view segment) piece → is_data_nested segment ≡ true
data_passes segment piece h =
    sym (data_mode_same segment.mode) ∙ form_passes h.form segment h.spelled.second h.spelled.is_second

-- types
types_pass : (groups : List (List DeclaredType)) (piece : List ℕ) → IsOptionalSection 1 (groups ≡ []) (IsList IsDeclaredGroup groups) piece
    → list_all is_group_spelled groups ≡ true
types_pass groups piece (IsOptionalSection.present h) = groups_pass groups h.is_second.content h.is_second.is_content
types_pass groups piece (IsOptionalSection.absent none empty) = rw none refl

-- a module
pub parts_pass : (m : Module) (bytes : List ℕ) → IsModuleBinary (syntax_of m) bytes → are_parts_spelled m ≡ true
parts_pass m bytes h =
    let types = h.form.is_second.is_second in
    let tables = h.form.is_second.is_second.is_second.is_second.is_second.is_second.is_second in
    let globals = tables.is_second.is_second.is_second.is_second.is_second.is_second in
    let elements = globals.is_second.is_second.is_second.is_second.is_second.is_second in
    let bodies = elements.is_second.is_second.is_second.is_second in
    let datas = bodies.is_second.is_second in
    let counts : length m.functions ≡ length m.bodies = h.bodies ∙ length-map m.bodies body_view in
    both (are_groups_spelled m.types m.further_supertypes) _
    (groups_paired m.types m.further_supertypes h.aligned
    (types_pass (declared_groups m.types m.further_supertypes) types.first types.is_first))
    (both (eqb (length m.functions) (length m.bodies)) _ (eq-eqb (length m.functions) (length m.bodies) counts)
    (both (list_all is_table_nested m.tables) _
    (section_all 4 table_pair IsTable is_table_nested table_passes m.tables tables.is_second.first tables.is_second.is_first)
    (both (list_all is_global_nested m.globals) _
    (section_all 6 global_pair IsGlobal is_global_nested global_passes m.globals globals.is_second.first globals.is_second.is_first)
    (both (list_all is_element_nested m.elements) _
    (section_all 9 element_view IsElem is_element_nested element_passes m.elements elements.is_second.first elements.is_second.is_first)
    (both (list_all is_body_spelled m.bodies) (list_all is_data_nested m.datas)
    (section_all 10 body_view IsFunctionBody is_body_spelled body_passes m.bodies bodies.is_second.first bodies.is_second.is_first)
    (section_all 11 segment_view IsData is_data_nested data_passes m.datas datas.is_second.first datas.is_second.is_first))))))
