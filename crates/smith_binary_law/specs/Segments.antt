-- Valid segments in the abstract syntax: the section Validation, Modules, of the WebAssembly Core
-- Specification 3.0, for any features. Subtyping follows the own rules of `Subtyping`.
use Rattle.std.specs.Prelude.{◌≡◌, ℕ, List, [], ◌∷◌, Some, slice_get, All}
use Rattle.smith_types.specs.Expressions.{Context, AreStackSteps}
use Rattle.smith_types.specs.Flags.{funcref}
use Rattle.smith_types.specs.Segments.{address_type}
use Rattle.smith_types.specs.Subtyping.{IsInRange, IsRefBelow, IsValBelow}
use Rattle.smith_types.specs.Syntax.const_instr.ConstInstr.{ConstInstr}
use Rattle.smith_types.specs.Syntax.entity_type.MemoryType.{MemoryType}
use Rattle.smith_types.specs.Syntax.entity_type.TableType.{TableType}
use Rattle.smith_types.specs.Syntax.segments.Elements.{Elements}
use Rattle.smith_types.specs.Syntax.segments.Elements.TheVariants.{Functions, Expressions}
use Rattle.smith_types.specs.Syntax.value_type.RefType.{RefType}
use Rattle.smith_types.specs.Syntax.value_type.ValType.{ValType}
use Rattle.smith_types.specs.Syntax.value_type.ValType.TheVariants.{Ref}
use Rattle.smith_binary_sections.specs.Elements.{Elem, Mode, passive, declared, active}
use Rattle.smith_binary_sections.specs.Data.{Data, DataMode}
use Rattle.smith_binary_sections.specs.Data as data_segment

-- an expression produces one value, whose type matches `wanted` (Constant Expressions)
pub record IsTyped (context : Context) (wanted : ValType) (expression : List ConstInstr) : Type 0 where
  pub value : ValType
  pub steps : AreStackSteps context expression [] (value ∷ [])
  pub below : IsValBelow context.types value wanted

-- the table exists, its element type accepts `ty`, and the offset has its address type (Element
-- Segments)
pub record IsTaken (context : Context) (tables : List TableType) (ty : RefType) (index : ℕ) (offset : List ConstInstr) : Type 0 where
  pub table : TableType
  pub stands : slice_get tables index ≡ Some table
  pub below : IsRefBelow context.types ty table.element_type
  pub offset_typed : IsTyped context (address_type table.table64) offset

abbrev pub IsModeTyped : Context → List TableType → RefType → Mode → Type 0
IsModeTyped context tables ty passive = Unit {0}
IsModeTyped context tables ty declared = Unit {0}
IsModeTyped context tables ty (active index offset) = IsTaken context tables ty index offset

-- an element segment: its type exists, each item has this type, and its table accepts it (Element
-- Segments)
pub record IsElemTyped (context : Context) (tables : List TableType) (e : Elem) : Type 0 where
  pub ty : IsInRange context.types e.ty.heap_type
  pub items : All (IsTyped context (Ref e.ty)) e.items
  pub mode : IsModeTyped context tables e.ty e.mode

-- a data segment: its memory exists, and its offset has the memory's address type (Data Segments)
abbrev pub IsDataModeTyped : Context → List MemoryType → DataMode → Type 0
IsDataModeTyped context memories data_segment.passive = Unit {0}
IsDataModeTyped context memories (data_segment.active index offset) =
    (memory : MemoryType) × (slice_get memories index ≡ Some memory) × IsTyped context (address_type memory.memory64) offset

abbrev pub IsDataTyped : Context → List MemoryType → Data → Type 0
IsDataTyped context memories d = IsDataModeTyped context memories d.mode

-- items that are function indices have the type `funcref` (own rule: the binary format gives such a
-- list no other type)
abbrev pub AreListedAsFuncref : Elements → RefType → Type 0
AreListedAsFuncref (Functions functions) ty = ty ≡ funcref
AreListedAsFuncref (Expressions expressions) ty = Unit {0}
