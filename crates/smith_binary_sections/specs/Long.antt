-- Values that are too long for the format: a list of 2^32 items or more, or a content of 2^32 bytes
-- or more.
use Rattle.std.specs.Prelude.{ℕ, ◌^◌, ◌≤◌, List, length, Any, ◌⊎◌}
use Rattle.smith_binary_sections.specs.Common.{ExportKind, Import, Is, IsList, Joined, SubType, ValType}
use Rattle.smith_types.specs.Syntax.composite_type.CompositeInnerType.{CompositeInnerType}
use Rattle.smith_types.specs.Syntax.composite_type.CompositeInnerType.TheVariants as inner
use Rattle.smith_types.specs.Syntax.composite_type.FuncType.{FuncType}
use Rattle.smith_types.specs.Syntax.composite_type.CompositeType.{CompositeType}
use Rattle.smith_types.specs.Syntax.imports.ImportItem.{ImportItem}
use Rattle.smith_types.specs.Syntax.imports.Imports.{Imports}
use Rattle.smith_types.specs.Syntax.imports.Imports.TheVariants.{Single, Compact1, Compact2}
use Rattle.smith_binary_sections.specs.Elements.{Elem}
use Rattle.smith_binary_sections.specs.Codes.{IsLocalsWritten}
use Rattle.smith_binary_sections.specs.Data.{Data}

-- a list has 2^32 items or more, or one of its items is too long
abbrev pub IsLongList : {A : Type 0} → (A → Type 0) → List A → Type 0
IsLongList IsLong xs = (2 ^ 32 ≤ length xs) ⊎ Any IsLong xs

-- a content has a spelling of 2^32 bytes or more
pub record IsLongContent (Content : List ℕ → Type 0) : Type 0 where
  pub piece : List ℕ
  pub spelled : Content piece
  pub long : 2 ^ 32 ≤ length piece

-- a value without lists is never too long
abbrev pub IsNeverLong : {A : Type 0} → A → Type 0
IsNeverLong x = ⊥

-- a text of 2^32 bytes or more
abbrev pub IsLongText : List ℕ → Type 0
IsLongText text = 2 ^ 32 ≤ length text

-- a function type with 2^32 parameters or more, or 2^32 results or more
abbrev pub IsLongFuncType : FuncType → Type 0
IsLongFuncType function = IsLongList IsNeverLong function.params ⊎ IsLongList IsNeverLong function.results

-- a struct type with 2^32 fields or more, or a function type that is too long
abbrev pub IsLongInner : CompositeInnerType → Type 0
IsLongInner (inner.Array array) = ⊥
IsLongInner (inner.Struct structure) = IsLongList IsNeverLong structure.fields
IsLongInner (inner.Func function) = IsLongFuncType function

-- a composite type whose struct or function type is too long
abbrev pub IsLongComposite : CompositeType → Type 0
IsLongComposite composite = IsLongInner composite.inner

-- a subtype whose composite type is too long
abbrev pub IsLongSubType : SubType → Type 0
IsLongSubType t = IsLongComposite t.composite_type

-- a group of 2^32 types or more, or with a type that is too long
abbrev pub IsLongGroup : List SubType → Type 0
IsLongGroup = IsLongList IsLongSubType

-- an import with a name that is too long
abbrev pub IsLongImport : Import → Type 0
IsLongImport imported = IsLongText imported.«module» ⊎ IsLongText imported.name

-- an import in a group with a name that is too long
abbrev pub IsLongImportItem : ImportItem → Type 0
IsLongImportItem item = IsLongText item.name

-- a group with 2^32 imports or more, or with a name that is too long
abbrev pub IsLongImportGroup : Imports → Type 0
IsLongImportGroup (Single imported) = IsLongImport imported
IsLongImportGroup (Compact1 from items) = IsLongText from ⊎ IsLongList IsLongImportItem items
IsLongImportGroup (Compact2 from ty names) = IsLongText from ⊎ IsLongList IsLongText names

-- an export with a name that is too long
abbrev pub IsLongExport : List ℕ × ExportKind × ℕ → Type 0
IsLongExport item = IsLongText item.0

-- an element segment of 2^32 items or more
abbrev pub IsLongElem : Elem → Type 0
IsLongElem e = IsLongList IsNeverLong e.items

-- a body has 2^32 locals or more, or, with each local as a run of its own, 2^32 bytes or more; with
-- empty runs, every body could be too long
abbrev pub IsLongBody : List ValType × List ℕ → Type 0
IsLongBody body = IsLongList IsNeverLong body.0 ⊎ IsLongContent (Joined (IsLocalsWritten body.0) (Is body.1))

-- a data segment of 2^32 bytes or more
abbrev pub IsLongData : Data → Type 0
IsLongData d = 2 ^ 32 ≤ length d.bytes

-- the list of a section is too long, or its content is
abbrev pub IsLongSection : {A : Type 0} → (A → List ℕ → Type 0) → (A → Type 0) → List A → Type 0
IsLongSection Item IsLong xs = IsLongList IsLong xs ⊎ IsLongContent (IsList Item xs)
