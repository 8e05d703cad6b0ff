-- Valid types and imports have the forms of enabled features alone.
use Rattle.smith_binary_program.proofs.Common.{[], All, All-cons, All-head, All-nil, All-tail, All-weaker, arith, Features, get_or}
use Rattle.smith_binary_program.proofs.Common.{get_or_from_slice_get, GlobalType, group_at, IsGlobalTypeEnabled, IsGlobalValid}
use Rattle.smith_binary_program.proofs.Common.{IsGroupEnabled, IsImportGroupEnabled, IsMemoryTypeEnabled, IsTableValid, IsTrue}
use Rattle.smith_binary_program.proofs.Common.{IsValTypeEnabled, IsValTypeValid, length, length-drop, List, map, MemoryType, Range, Ref}
use Rattle.smith_binary_program.proofs.Common.{RefType, slice_get, slice_get-get_or, slice_get_within, subst, SubType, sym, TableType}
use Rattle.smith_binary_program.proofs.Common.{ValType, ℕ, ◌++◌, ◌+◌, ◌<◌, ◌∙◌, ◌∷◌, ◌≡◌, ◌≤◌}
use Rattle.std.proofs.Common.{take, ◌-◌, ◌⊎◌}
use Rattle.std.specs.Prelude.{IfSome, IsSome, None, Option, Some}
use Rattle.std.proofs.lemmas.List.{get_or-drop, get_or-take, length-take-le}
use Rattle.std.proofs.lemmas.List.Elements.{All-get_or}
use Rattle.smith_types.specs.Syntax.entity_type.EntityType.{EntityType}
use Rattle.smith_types.specs.Syntax.entity_type.EntityType.TheVariants as entity
use Rattle.smith_types.specs.Syntax.imports.Import.{Import}
use Rattle.smith_types.specs.Syntax.imports.ImportItem.{ImportItem}
use Rattle.smith_types.specs.Syntax.imports.Imports.{Imports}
use Rattle.smith_types.specs.Syntax.imports.Imports.TheVariants.{Single, Compact1, Compact2}
use Rattle.smith_types.specs.Syntax.value_type.HeapType.{HeapType}
use Rattle.smith_types.specs.Syntax.value_type.HeapType.TheVariants.{Abstract, Concrete, Exact}
use Rattle.smith_types.specs.Syntax.value_type.ValType.TheVariants.{F32, F64, I32, I64, V128}
use Rattle.smith_types.specs.Entities.{IsMemoryValid}
use Rattle.smith_types.specs.Flags.{IsHeapTypeEnabled}
use Rattle.smith_types.specs.Imports.{IsImportsValid, flattened, global_of, import_of, imported, imports_of, memory_of, table_of, tag_of}
use Rattle.smith_types.specs.ValidTypes.{IsGroupValid, IsHeapTypeValid, IsRefTypeValid, IsTypeValid, values_of}
use Rattle.smith_decode.specs.TypeForms.{AreImportTypesEnabled, IsEntityTypeEnabled}
use Rattle.smith_decode.specs.TypeForms.{IsRefTypeEnabled, IsTableTypeEnabled}
use Rattle.smith_decode.specs.TypeForms.{IsTypeEnabled}

-- an item at an index
pub at_index : {X : Type 0} (P : X → Type 0) (xs : List X) (index : ℕ) (x : X) → All P xs → slice_get xs index ≡ Some x → P x
at_index P xs index x all there =
    subst P (get_or_from_slice_get xs index x x there) (All-get_or P xs index x (slice_get_within xs index x there) all)

-- heap types, references and value types
pub heap_on : (features : Features) (end : ℕ) (heap : HeapType) → IsHeapTypeValid features end heap → IsHeapTypeEnabled features heap
heap_on features end (Abstract shared ty) valid = valid
heap_on features end (Concrete index) valid = valid.0
heap_on features end (Exact index) valid = valid.0

pub ref_on : (features : Features) (end : ℕ) (reference : RefType) → IsRefTypeValid features end reference
    → IsRefTypeEnabled features reference
ref_on features end reference valid =
    record { heap_type = heap_on features end reference.heap_type valid.heap_type; nullable = valid.nullable }

pub val_on : (features : Features) (end : ℕ) (value : ValType) → IsValTypeValid features end value → IsValTypeEnabled features value
val_on features end I32 valid = tt
val_on features end I64 valid = tt
val_on features end F32 valid = tt
val_on features end F64 valid = tt
val_on features end V128 valid = valid
val_on features end (Ref reference) valid = (valid.0, ref_on features end reference valid.1)

-- groups of types
type_on : (features : Features) (types : List SubType) (end : ℕ) (t : SubType) → IsTypeValid features types end t
    → IsTypeEnabled features t
type_on features types end t valid = record {
  form = valid.enabled;
  values = All-weaker (IsValTypeValid features end) (IsValTypeEnabled features) (val_on features end)
      (values_of t.composite_type.inner) valid.values;
}

length_group : (types : List SubType) (range : Range ℕ) → range.end ≤ length types
    → length (group_at types range) ≡ range.end - range.start
length_group types range inside =
    omega (arith, length-drop range.start (take range.end types), length-take-le range.end types inside)

pub group_on : (features : Features) (types : List SubType) (range : Range ℕ) → range.end ≤ length types
    → IsGroupValid features types range → IsGroupEnabled features (group_at types range)
group_on features types range inside valid =
    let many = length_group types range inside in
    record {
      members = λ k d within.
          let place : range.start + k < range.end = omega (arith, many, within) in
          let is : get_or (group_at types range) k d ≡ get_or types (range.start + k) d =
          get_or-drop range.start (take range.end types) k d ∙ get_or-take range.end types (range.start + k) d place in
          subst (IsTypeEnabled features) (sym is)
          (type_on features types range.end (get_or types (range.start + k) d)
          (valid.members (range.start + k) (get_or types (range.start + k) d) (omega arith) place
          (slice_get-get_or types (range.start + k) d (omega (arith, place, inside)))));
      single = λ none. omega (arith, many, valid.single none);
    }

-- the types of entities
pub table_on : (features : Features) (types : List SubType) (table : TableType) → IsTableValid features types table
    → IsTableTypeEnabled features table
table_on features types table valid = record {
  element = ref_on features (length types) table.element_type valid.element;
  element_enabled = valid.element_enabled;
  table64 = valid.table64;
  shared = λ is. (valid.shared is).0;
}

page_on : (features : Features) (stated : Option ℕ) (Is : ℕ → Type 0) → IfSome stated (λ log2. Is log2 × IsTrue features.custom_page_sizes)
    → IsSome stated → IsTrue features.custom_page_sizes
page_on features (Some log2) Is valid is = valid.1
page_on features None Is valid is = absurd cc

pub memory_on : (features : Features) (memory : MemoryType) → IsMemoryValid features memory → IsMemoryTypeEnabled features memory
memory_on features memory valid = record {
  page_size = page_on features memory.page_size_log2 (λ log2. (log2 ≡ 0) ⊎ (log2 ≡ 16)) valid.page_size;
  memory64 = valid.memory64;
  shared = λ is. (valid.shared is).0;
}

pub global_on : (features : Features) (types : List SubType) (global : GlobalType) → IsGlobalValid features types global
    → IsGlobalTypeEnabled features global
global_on features types global valid =
    record { value = val_on features (length types) global.val_type valid.value; shared = λ is. (valid.shared is).0 }

-- the entities that imports add to the index spaces are valid
pub record AreImportedValid (features : Features) (types : List SubType) (imports : List Import) : Type 0 where
  pub tables : All (IsTableValid features types) (imported table_of imports)
  pub memories : All (IsMemoryValid features) (imported memory_of imports)
  pub globals : All (IsGlobalValid features types) (imported global_of imports)
  pub tags : 0 < length (imported tag_of imports) → IsTrue features.exceptions

pub front : {X : Type 0} (P : X → Type 0) (xs ys : List X) → All P (xs ++ ys) → All P xs
front P [] ys all = All-nil P
front P (x ∷ xs) ys all = All-cons P x xs (All-head P x (xs ++ ys) all) (front P xs ys (All-tail P x (xs ++ ys) all))

back : {X : Type 0} (P : X → Type 0) (xs ys : List X) → All P (xs ++ ys) → All P ys
back P [] ys all = all
back P (x ∷ xs) ys all = back P xs ys (All-tail P x (xs ++ ys) all)

longer : {X : Type 0} (xs ys : List X) → length ys ≤ length (xs ++ ys)
longer [] ys = omega arith
longer (x ∷ xs) ys = omega (arith, longer xs ys)

entity_on : (features : Features) (types : List SubType) (ty : EntityType) (imports : List Import)
    → All (IsTableValid features types) (table_of ty ++ imported table_of imports)
    → All (IsMemoryValid features) (memory_of ty ++ imported memory_of imports)
    → All (IsGlobalValid features types) (global_of ty ++ imported global_of imports)
    → (0 < length (tag_of ty ++ imported tag_of imports) → IsTrue features.exceptions) → IsEntityTypeEnabled features ty
entity_on features types (entity.Func index) imports tables memories globals tags = tt
entity_on features types (entity.Table table) imports tables memories globals tags =
    table_on features types table (All-head (IsTableValid features types) table (imported table_of imports) tables)
entity_on features types (entity.Memory memory) imports tables memories globals tags =
    memory_on features memory (All-head (IsMemoryValid features) memory (imported memory_of imports) memories)
entity_on features types (entity.Global global) imports tables memories globals tags =
    global_on features types global (All-head (IsGlobalValid features types) global (imported global_of imports) globals)
entity_on features types (entity.Tag index) imports tables memories globals tags = tags (omega arith)

-- groups of imports
abbrev pub IsImportOn : Features → Import → Type 0
IsImportOn features one = IsEntityTypeEnabled features one.entity_type

pub each_import_on : (features : Features) (types : List SubType) (imports : List Import) → AreImportedValid features types imports
    → All (IsImportOn features) imports
each_import_on features types [] h = All-nil (IsImportOn features)
each_import_on features types (one ∷ imports) h =
    let ty = one.entity_type in
    All-cons (IsImportOn features) one imports (entity_on features types ty imports h.tables h.memories h.globals h.tags)
    (each_import_on features types imports (record {
      tables = back (IsTableValid features types) (table_of ty) (imported table_of imports) h.tables;
      memories = back (IsMemoryValid features) (memory_of ty) (imported memory_of imports) h.memories;
      globals = back (IsGlobalValid features types) (global_of ty) (imported global_of imports) h.globals;
      tags = λ some. h.tags (omega (arith, some, longer (tag_of ty) (imported tag_of imports)));
    }))

unmapped : {X Y : Type 0} (P : X → Type 0) (f : Y → X) (ys : List Y) → All P (map f ys) → All (λ (y : Y). P (f y)) ys
unmapped P f [] all = All-nil (λ y. P (f y))
unmapped P f (y ∷ ys) all =
    All-cons (λ y. P (f y)) y ys (All-head P (f y) (map f ys) all) (unmapped P f ys (All-tail P (f y) (map f ys) all))

group_types_on : (features : Features) (group : Imports) → 0 < length (imports_of group) → All (IsImportOn features) (imports_of group)
    → AreImportTypesEnabled features group
group_types_on features (Single one) filled on = All-head (IsImportOn features) one [] on
group_types_on features (Compact1 from items) filled on =
    unmapped (IsImportOn features) (λ (item : ImportItem). import_of from item.name item.entity_type) items on
group_types_on features (Compact2 from ty []) filled on = absurd (omega (arith, filled))
group_types_on features (Compact2 from ty (name ∷ names)) filled on =
    All-head (IsImportOn features) (import_of from name ty) (map (λ name. import_of from name ty) names) on

pub imports_on : (features : Features) (groups : List Imports) → All (IsImportsValid features) groups
    → All (IsImportOn features) (flattened groups) → All (IsImportGroupEnabled features) groups
imports_on features [] valid on = All-nil (IsImportGroupEnabled features)
imports_on features (group ∷ groups) valid on =
    let one = All-head (IsImportsValid features) group groups valid in
    let own = front (IsImportOn features) (imports_of group) (flattened groups) on in
    let rest = back (IsImportOn features) (imports_of group) (flattened groups) on in
    All-cons (IsImportGroupEnabled features) group groups
    (record { form = one.enabled; types = group_types_on features group one.filled own })
    (imports_on features groups (All-tail (IsImportsValid features) group groups valid) rest)
