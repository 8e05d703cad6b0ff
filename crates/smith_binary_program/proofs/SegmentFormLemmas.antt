-- Valid segments are written in forms that are enabled.
use Rattle.smith_binary_program.proofs.Common.{All, All-weaker, arith, Bool, Context, ElementSegment, false, Features, IsDataValid}
use Rattle.smith_binary_program.proofs.Common.{IsElementSegmentValid, IsTrue, IsValid, length, List, MemoryType, module_features}
use Rattle.smith_binary_program.proofs.Common.{ModuleParts, None, refl, RefType, segment_context, slice_get, slice_get_within, Some}
use Rattle.smith_binary_program.proofs.Common.{TableType, true, ℕ, ◌&&◌, ◌<◌, ◌≡◌}
use Rattle.std.proofs.Common.{cond, eqb}
use Rattle.std.proofs.lemmas.Bool.{eqb-false}
use Rattle.smith_types.specs.Syntax.segments.DataSegment.{DataSegment}
use Rattle.smith_types.specs.Syntax.segments.DataSegmentKind.{DataSegmentKind}
use Rattle.smith_types.specs.Syntax.segments.DataSegmentKind.TheVariants as data_kind
use Rattle.smith_types.specs.Syntax.segments.ElementKind.{ElementKind}
use Rattle.smith_types.specs.Syntax.segments.ElementKind.TheVariants as element_kind
use Rattle.smith_types.specs.Syntax.segments.Elements.{Elements}
use Rattle.smith_types.specs.Syntax.segments.Elements.TheVariants.{Functions, Expressions}
use Rattle.smith_types.specs.Segments.{AreItemsValid, IsDataKindValid, IsElementKindValid}
use Rattle.smith_binary_sections.specs.Elements.{elem_form, funcs_form, is_func_ref, items_form}
use Rattle.smith_binary_sections.specs.Elements.Form.{first_funcs, table_funcs, first_items, table_items}
use Rattle.smith_binary_sections.specs.Data.{data_form}
use Rattle.smith_binary_sections.specs.Data.DataForm.{first_memory, named_memory}
use Rattle.smith_binary_program.specs.Forms.{IsDataFormEnabled, IsElemFormEnabled}

-- an index of an item, of which there is more than one if the index is not 0
several : {A : Type 0} (xs : List A) (index : ℕ) (x : A) → slice_get xs index ≡ Some x → eqb index 0 ≡ false → 1 < length xs
several xs index x there other =
    let inside : index < length xs = slice_get_within xs index x there in
    let away : index ≡ 0 → ⊥ = eqb-false index 0 other in
    omega (arith, inside, away)

-- the form of functions for a table
funcs_by : (features : Features) (is_first : Bool) → (is_first ≡ false → IsTrue features.reference_types)
    → IsElemFormEnabled features (cond is_first first_funcs table_funcs)
funcs_by features true needs = tt
funcs_by features false needs = needs refl

items_by : (features : Features) (is_short : Bool) → IsTrue features.reference_types
    → IsElemFormEnabled features (cond is_short first_items table_items)
items_by features true is = is
items_by features false is = is

data_by : (features : Features) (is_first : Bool) → (is_first ≡ false → IsTrue features.multi_memory)
    → IsDataFormEnabled features (cond is_first first_memory named_memory)
data_by features true needs = tt
data_by features false needs = needs refl

funcs_enabled : (context : Context) (tables : List TableType) (ty : RefType) (kind : ElementKind)
    → (1 < length tables → IsTrue context.features.reference_types) → IsElementKindValid context tables ty kind
    → IsElemFormEnabled context.features (funcs_form kind)
funcs_enabled context tables ty element_kind.Passive enabled h = h
funcs_enabled context tables ty element_kind.Declared enabled h = h
funcs_enabled context tables ty (element_kind.Active None offset) enabled h = tt
funcs_enabled context tables ty (element_kind.Active (Some table) offset) enabled h =
    funcs_by context.features (eqb table 0) (λ other. enabled (several tables table h.1.table h.1.stands other))

items_enabled : (context : Context) (tables : List TableType) (ty : RefType) (kind : ElementKind)
    → IsTrue context.features.reference_types → IsElementKindValid context tables ty kind
    → IsElemFormEnabled context.features (items_form ty kind)
items_enabled context tables ty element_kind.Passive is h = (is, h)
items_enabled context tables ty element_kind.Declared is h = (is, h)
items_enabled context tables ty (element_kind.Active None offset) is h = items_by context.features (eqb 0 0 && is_func_ref ty) is
items_enabled context tables ty (element_kind.Active (Some table) offset) is h =
    items_by context.features (eqb table 0 && is_func_ref ty) is

elem_enabled : (context : Context) (tables : List TableType) (items : Elements) (ty : RefType) (kind : ElementKind)
    → (1 < length tables → IsTrue context.features.reference_types) → AreItemsValid context ty items
    → IsElementKindValid context tables ty kind → IsElemFormEnabled context.features (elem_form items ty kind)
elem_enabled context tables (Functions funcs) ty kind enabled valid h = funcs_enabled context tables ty kind enabled h
elem_enabled context tables (Expressions items) ty kind enabled valid h = items_enabled context tables ty kind valid.0 h

data_enabled : (context : Context) (memories : List MemoryType) (kind : DataSegmentKind)
    → (1 < length memories → IsTrue context.features.multi_memory) → IsDataKindValid context memories kind
    → IsDataFormEnabled context.features (data_form kind)
data_enabled context memories data_kind.Passive enabled h = h
data_enabled context memories (data_kind.Active index offset) enabled h =
    data_by context.features (eqb index 0) (λ other. enabled (several memories index h.0 h.1 other))

pub elems_enabled : (m : ModuleParts) → IsValid m
    → All (λ (e : ElementSegment). IsElemFormEnabled (module_features m) (elem_form e.items e.ty e.kind)) m.elems
elems_enabled m valid =
    All-weaker (IsElementSegmentValid (segment_context m) m.tables)
    (λ (e : ElementSegment). IsElemFormEnabled (module_features m) (elem_form e.items e.ty e.kind))
    (λ e h. elem_enabled (segment_context m) m.tables e.items e.ty e.kind valid.counts.several_tables h.items h.kind)
    m.elems valid.elems

pub datas_enabled : (m : ModuleParts) → IsValid m
    → All (λ (d : DataSegment). IsDataFormEnabled (module_features m) (data_form d.kind)) m.datas
datas_enabled m valid =
    All-weaker (IsDataValid (segment_context m) m.memories)
    (λ (d : DataSegment). IsDataFormEnabled (module_features m) (data_form d.kind))
    (λ d h. data_enabled (segment_context m) m.memories d.kind valid.counts.several_memories h)
    m.datas valid.data_segments
