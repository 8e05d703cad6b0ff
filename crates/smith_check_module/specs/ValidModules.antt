-- Whether a module is valid, apart from the bodies of its functions: the section Validation, Modules,
-- of the WebAssembly Core Specification 3.0. The conditions on features, sharedness and exact types are
-- rules of this project. Types are compared by canonical indices, so that equal types are one type.
use Rattle.std.specs.Prelude.{◌≡◌, ℕ, ◌+◌, ◌⊎◌, false, IsTrue, List, [], ◌∷◌, Some, length, map, slice_get, All}
use Rattle.smith_check_module.specs.Common.{canonical_index, ConstInstr, Context, EntitySpaces, Features, GlobalType, imported_spaces}
use Rattle.smith_check_module.specs.Common.{Instr, Ref, renamed_val, SubType, Syntax, TableType, ValType}
use Rattle.smith_types.specs.Syntax.entity_type.MemoryType.{MemoryType}
use Rattle.smith_types.specs.Syntax.value_type.RefType.{RefType}
use Rattle.smith_types.specs.Entities.{IsMemoryValid, IsTableValid, IsGlobalValid, IsFuncTypeIndex, AreCountsEnabled}
use Rattle.smith_types.specs.Exports.{AreExportsValid, IsStartValid}
use Rattle.smith_types.specs.Expressions.{IsConstExpr, seeing, seen_by_global, seen_by_segments, seen_by_tables}
use Rattle.smith_types.specs.Flags.{IsElementTypeEnabled}
use Rattle.smith_types.specs.Segments.{IsItem, address_type}
use Rattle.smith_types.specs.Subtyping.{IsRefBelow}
use Rattle.smith_types.specs.ValidTypes.{IsRefTypeValid, AreTypesValid}
use Rattle.smith_types.specs.Groups.{space_of}
use Rattle.smith_binary_sections.specs.Elements.{func_ref}
use Rattle.smith_decode.specs.Constants.{as_expr}
use Rattle.smith_decode.specs.Data.{Data, DataMode}
use Rattle.smith_decode.specs.Definitions.{null_of}
use Rattle.smith_decode.specs.Elements.{Elem, Mode, func_items}
use Rattle.smith_check_types.specs.Canonical.{AreCanonical}
use Rattle.smith_check_types.specs.Renamed.{renamed_ref}
use Rattle.smith_check_types.specs.TypeSections.{AreGroupsInScope, canonical_groups}
use Rattle.smith_check_module.specs.CanonicalModules.{renamed_const}
use Rattle.smith_check_module.specs.Contexts.{spaces_in, context_in, types_in}

-- each entity, imported or defined, is valid (Validation, External Types)
pub record AreEntitiesValid (features : Features) (types : List SubType) (spaces : EntitySpaces) : Type 0 where
  pub tags : All (IsFuncTypeIndex types) spaces.tags
  pub funcs : All (IsFuncTypeIndex types) spaces.funcs
  pub tables : All (IsTableValid features types) spaces.tables
  pub memories : All (IsMemoryValid features) spaces.memories
  pub globals : All (IsGlobalValid features types) spaces.globals

-- an expression consists of constant instructions, and produces a value of type `wanted`
-- (Validation, Constant Expressions)
pub record IsConstant (context : Context) (indices : List ℕ) (wanted : ValType) (expression : List Instr) : Type 0 where
  pub constants : List ConstInstr
  pub spelled : expression ≡ as_expr constants
  pub typed : IsConstExpr context wanted (map (renamed_const (canonical_index indices)) constants)

-- the initialiser of a table is the `ref.null` of its nullable element type, or a constant
-- expression of its element type (Validation, Tables), which requires garbage collection (own rule)
abbrev pub IsTableInitialised : Context → List ℕ → TableType × List Instr → Type 0
IsTableInitialised context indices table =
    (IsTrue table.0.element_type.nullable × (table.1 ≡ null_of table.0.element_type))
    ⊎ (IsTrue context.features.gc × IsConstant context indices (renamed_val (canonical_index indices) (Ref table.0.element_type)) table.1)

-- each global from `index` on has a valid initialiser, which may read the globals before it
-- (Validation, Globals)
abbrev pub AreGlobalsInitialised : Context → List ℕ → ℕ → List (GlobalType × List Instr) → Type 0
AreGlobalsInitialised context indices index [] = Unit {0}
AreGlobalsInitialised context indices index (global ∷ globals) =
    IsConstant (seeing context (seen_by_global context index)) indices (renamed_val (canonical_index indices) global.0.val_type) global.1
    × AreGlobalsInitialised context indices (index + 1) globals

-- each defined table and global is valid (Validation, Tables; Globals)
pub record AreDefinitionsValid (context : Context) (indices : List ℕ) (m : Syntax) : Type 0 where
  pub tables : All (IsTableInitialised (seeing context (seen_by_tables context)) indices) m.tables
  pub globals : AreGlobalsInitialised context indices (length (imported_spaces m.imports).globals) m.globals

-- the items of a segment are each a `ref.func` of the segment's type (Validation, Element Segments)
pub record AreFunctions (context : Context) (ty : RefType) (items : List (List Instr)) : Type 0 where
  pub functions : List ℕ
  pub spelled : items ≡ func_items functions
  pub typed : All (IsItem context ty) functions

-- the items of a segment are each a `ref.func` of the segment's type, or all are constant
-- expressions of that type (Validation, Element Segments), which requires reference types (own
-- rule)
abbrev pub AreItemsValid : Context → List ℕ → RefType → List (List Instr) → Type 0
AreItemsValid context indices ty items =
    AreFunctions context ty items ⊎ (IsTrue context.features.reference_types × All (IsConstant context indices (Ref ty)) items)

-- the type of a segment is `(ref func)`, the type of function lists, or is valid (Validation,
-- Element Segments) and enabled (own rule)
abbrev pub IsElementTypeValid : Context → RefType → Type 0
IsElementTypeValid context ty =
    (ty ≡ func_ref false) ⊎ (IsRefTypeValid context.features (length context.types) ty × IsElementTypeEnabled context.features ty)

-- the table of an active segment exists and accepts its type, and the offset has the table's
-- address type (Validation, Element Segments)
pub record IsCopiedToTable (context : Context) (indices : List ℕ) (spaces : EntitySpaces) (ty : RefType) (index : ℕ)
    (offset : List Instr) : Type 0 where
  pub table : TableType
  pub stands : slice_get spaces.tables index ≡ Some table
  pub below : IsRefBelow context.types ty table.element_type
  pub offset_typed : IsConstant context indices (address_type table.table64) offset

-- the mode of an element segment is valid (Validation, Element Segments); passive and declared
-- segments require bulk memory (own rule)
abbrev pub IsElementModeValid : Context → List ℕ → EntitySpaces → RefType → Mode → Type 0
IsElementModeValid context indices spaces ty Mode.passive = IsTrue context.features.bulk_memory
IsElementModeValid context indices spaces ty Mode.declared = IsTrue context.features.bulk_memory
IsElementModeValid context indices spaces ty (Mode.active table offset) = IsCopiedToTable context indices spaces ty table offset

-- an element segment is valid (Validation, Element Segments)
pub record IsElementValid (context : Context) (indices : List ℕ) (spaces : EntitySpaces) (segment : Elem) : Type 0 where
  pub ty : IsElementTypeValid context (renamed_ref (canonical_index indices) segment.ty)
  pub items : AreItemsValid context indices (renamed_ref (canonical_index indices) segment.ty) segment.items
  pub mode : IsElementModeValid context indices spaces (renamed_ref (canonical_index indices) segment.ty) segment.mode

-- the memory of an active data segment exists, and the offset has its address type (Validation,
-- Data Segments); a passive segment requires bulk memory (own rule)
abbrev pub IsDataModeValid : Context → List ℕ → EntitySpaces → DataMode → Type 0
IsDataModeValid context indices spaces DataMode.passive = IsTrue context.features.bulk_memory
IsDataModeValid context indices spaces (DataMode.active index offset) =
    (memory : MemoryType) × (slice_get spaces.memories index ≡ Some memory) × IsConstant context indices (address_type memory.memory64)
    offset

-- each element and data segment is valid (Validation, Element Segments; Data Segments)
pub record AreSegmentsValid (context : Context) (indices : List ℕ) (spaces : EntitySpaces) (m : Syntax) : Type 0 where
  pub elements : All (IsElementValid (seeing context (seen_by_segments context)) indices spaces) m.elems
  pub datas : All (λ (data_segment : Data). IsDataModeValid (seeing context (seen_by_segments context)) indices spaces data_segment.mode)
      m.datas

-- a module is valid apart from its types and bodies, by these canonical indices (Validation,
-- Modules)
pub record AreSectionsValid (features : Features) (indices : List ℕ) (m : Syntax) : Type 0 where
  pub entities : AreEntitiesValid features (types_in indices m) (spaces_in indices m)
  pub counts : AreCountsEnabled features (spaces_in indices m)
  pub definitions : AreDefinitionsValid (context_in features indices m) indices m
  pub exports : AreExportsValid (spaces_in indices m) m.exports
  pub start : IsStartValid (types_in indices m) (spaces_in indices m).funcs m.start
  pub segments : AreSegmentsValid (context_in features indices m) indices (spaces_in indices m) m

-- a module is valid apart from its bodies (Validation, Modules)
pub record IsValidApart (features : Features) (m : Syntax) : Type 0 where
  pub scope : AreGroupsInScope 0 m.types
  pub indices : List ℕ
  pub canonical : AreCanonical m.types indices
  pub types : AreTypesValid features (space_of (canonical_groups indices m.types))
  pub sections : AreSectionsValid features indices m
