-- Exports and the start function: the sections Validation, Exports, and Validation, Start Function,
-- of the WebAssembly Core Specification 3.0.
use Rattle.std.specs.Prelude.{◌≡◌, ℕ, List, [], Option, Some, None, slice_get, map, All}
use Rattle.smith_types.specs.Entities.{IsFuncAt}
use Rattle.smith_types.specs.Imports.{EntitySpaces}
use Rattle.smith_types.specs.Common.{EntityType, GlobalType, MemoryType, SubType, TableType}
use Rattle.smith_syntax.specs.declared.entity_type.EntityType.TheVariants as entity
use Rattle.smith_syntax.specs.declared.entity_type.ExportKind.{ExportKind}
use Rattle.smith_syntax.specs.declared.entity_type.ExportKind.TheVariants as kind

-- an entity of this kind exists at this index, and `ty` is its external type (Validation, Exports)
abbrev pub IsEntityAt : EntitySpaces → ExportKind → ℕ → EntityType → Type 0
IsEntityAt spaces kind.Func index ty = (func : ℕ) × (slice_get spaces.funcs index ≡ Some func) × (ty ≡ entity.Func func)
IsEntityAt spaces kind.Table index ty = (table : TableType) × (slice_get spaces.tables index ≡ Some table) × (ty ≡ entity.Table table)
IsEntityAt spaces kind.Memory index ty = (memory : MemoryType) × (slice_get spaces.memories index ≡ Some memory)
    × (ty ≡ entity.Memory memory)
IsEntityAt spaces kind.Global index ty = (global : GlobalType) × (slice_get spaces.globals index ≡ Some global)
    × (ty ≡ entity.Global global)
IsEntityAt spaces kind.Tag index ty = (tag : ℕ) × (slice_get spaces.tags index ≡ Some tag) × (ty ≡ entity.Tag tag)

-- no item occurs at two positions of the list (Validation, Modules, for the names of exports)
pub record AreDistinct {A : Type 0} (items : List A) : Type 0 where
  pub once : (i j : ℕ) (item : A) → slice_get items i ≡ Some item → slice_get items j ≡ Some item → i ≡ j

-- each export refers to an entity that exists (Validation, Exports)
abbrev pub AreExportsStanding : EntitySpaces → List (List ℕ × ExportKind × ℕ) → Type 0
AreExportsStanding spaces exports = All (λ (one : List ℕ × ExportKind × ℕ). (ty : EntityType) × IsEntityAt spaces one.1 one.2 ty) exports

-- each export refers to an entity that exists, and the names of exports are distinct (Validation,
-- Modules)
pub record AreExportsValid (spaces : EntitySpaces) (exports : List (List ℕ × ExportKind × ℕ)) : Type 0 where
  pub stand : AreExportsStanding spaces exports
  pub distinct : AreDistinct (map (λ (one : List ℕ × ExportKind × ℕ). one.0) exports)

-- the start function, if any, exists and has no parameters and no results (Validation, Start
-- Function)
abbrev pub IsStartValid : List SubType → List ℕ → Option ℕ → Type 0
IsStartValid types funcs None = Unit {0}
IsStartValid types funcs (Some function) =
    (index : ℕ) × (slice_get funcs function ≡ Some index) × IsFuncAt types index (record { params = []; results = [] })

-- the kind of an entity (Structure, External Types)
abbrev pub entity_kind : EntityType → ExportKind
entity_kind (entity.Tag index) = kind.Tag
entity_kind (entity.Func index) = kind.Func
entity_kind (entity.Global global) = kind.Global
entity_kind (entity.Memory memory) = kind.Memory
entity_kind (entity.Table table) = kind.Table
