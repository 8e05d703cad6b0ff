-- The features that the forms of types require. By a rule of this project, a module may have a form
-- only if its features are enabled; the standard defines one language.
use Rattle.std.specs.Prelude.{◌≡◌, false, IsTrue, IsSome, List, length, All}
use Rattle.smith_decode.specs.Common.{Features, GlobalType, Imports, MemoryType, RefType, SubType, TableType, ValType}
use Rattle.smith_types.specs.Syntax.value_type.ValType.TheVariants.{V128, Ref}
use Rattle.smith_types.specs.Syntax.entity_type.EntityType.{EntityType}
use Rattle.smith_types.specs.Syntax.entity_type.EntityType.TheVariants as entity
use Rattle.smith_types.specs.Syntax.imports.Imports.TheVariants.{Single, Compact1, Compact2}
use Rattle.smith_types.specs.Syntax.imports.ImportItem.{ImportItem}
use Rattle.smith_types.specs.Flags.{IsElementTypeEnabled, IsHeapTypeEnabled, IsImportsEnabled, IsSubTypeEnabled}
use Rattle.smith_types.specs.ValidTypes.{values_of}

-- a reference type is enabled; a non-nullable one requires its feature (Reference Types)
pub record IsRefTypeEnabled (features : Features) (reference : RefType) : Type 0 where
  pub heap_type : IsHeapTypeEnabled features reference.heap_type
  pub nullable : reference.nullable ≡ false → IsTrue features.function_references

-- a value type is enabled (Value Types)
abbrev pub IsValTypeEnabled : Features → ValType → Type 0
IsValTypeEnabled features V128 = IsTrue features.simd
IsValTypeEnabled features (Ref reference) = IsTrue features.reference_types × IsRefTypeEnabled features reference
IsValTypeEnabled features _ = Unit {0}

-- a subtype and the value types in it are enabled (Recursive Types)
pub record IsTypeEnabled (features : Features) (t : SubType) : Type 0 where
  pub form : IsSubTypeEnabled features t
  pub values : All (IsValTypeEnabled features) (values_of t.composite_type.inner)

-- a recursive group is enabled; without garbage collection, it has exactly one type (Recursive
-- Types)
pub record IsGroupEnabled (features : Features) (group : List SubType) : Type 0 where
  pub members : All (IsTypeEnabled features) group
  pub single : features.gc ≡ false → length group ≡ 1

-- a table type is enabled (Table Types)
pub record IsTableTypeEnabled (features : Features) (table : TableType) : Type 0 where
  pub element : IsRefTypeEnabled features table.element_type
  pub element_enabled : IsElementTypeEnabled features table.element_type
  pub table64 : IsTrue table.table64 → IsTrue features.memory64
  pub shared : IsTrue table.shared → IsTrue features.shared_everything_threads

-- a memory type is enabled (Memory Types)
pub record IsMemoryTypeEnabled (features : Features) (memory : MemoryType) : Type 0 where
  pub page_size : IsSome memory.page_size_log2 → IsTrue features.custom_page_sizes
  pub memory64 : IsTrue memory.memory64 → IsTrue features.memory64
  pub shared : IsTrue memory.shared → IsTrue features.threads

-- a global type is enabled (Global Types)
pub record IsGlobalTypeEnabled (features : Features) (global : GlobalType) : Type 0 where
  pub value : IsValTypeEnabled features global.val_type
  pub shared : IsTrue global.shared → IsTrue features.shared_everything_threads

-- the type of an import is enabled (External Types)
abbrev pub IsEntityTypeEnabled : Features → EntityType → Type 0
IsEntityTypeEnabled features (entity.Func index) = Unit {0}
IsEntityTypeEnabled features (entity.Table table) = IsTableTypeEnabled features table
IsEntityTypeEnabled features (entity.Memory memory) = IsMemoryTypeEnabled features memory
IsEntityTypeEnabled features (entity.Global global) = IsGlobalTypeEnabled features global
IsEntityTypeEnabled features (entity.Tag index) = IsTrue features.exceptions

-- the types in a group of imports are enabled (Import Section)
abbrev pub AreImportTypesEnabled : Features → Imports → Type 0
AreImportTypesEnabled features (Single imported) = IsEntityTypeEnabled features imported.entity_type
AreImportTypesEnabled features (Compact1 from items) = All (λ (item : ImportItem). IsEntityTypeEnabled features item.entity_type) items
AreImportTypesEnabled features (Compact2 from entity_type names) = IsEntityTypeEnabled features entity_type

-- a group of imports is enabled (Import Section)
pub record IsImportGroupEnabled (features : Features) (group : Imports) : Type 0 where
  pub form : IsImportsEnabled features group
  pub types : AreImportTypesEnabled features group
