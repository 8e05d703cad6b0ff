-- The first invalid item of a module, apart from its types and bodies. The order of the parts is a
-- rule of this project; each item is checked as in the section Validation, Modules, of the
-- WebAssembly Core Specification 3.0.
use Rattle.std.specs.Prelude.{◌≡◌, ℕ, ◌+◌, ◌<◌, IsTrue, List, [], ◌∷◌, ◌++◌, Some, length, slice_get, All}
use Rattle.smith_check_module.specs.Common.{canonical_index, Context, EntitySpaces, Features, GlobalType, imported_spaces, Instr}
use Rattle.smith_check_module.specs.Common.{renamed_val, Syntax}
use Rattle.smith_types.specs.Syntax.entity_type.EntityType.{EntityType}
use Rattle.smith_types.specs.Syntax.entity_type.ExportKind.{ExportKind}
use Rattle.smith_types.specs.Entities.{IsMemoryValid, IsTableValid, IsGlobalValid, IsFuncTypeIndex}
use Rattle.smith_types.specs.Exports.{IsEntityAt, IsStartValid}
use Rattle.smith_types.specs.Expressions.{seeing, seen_by_global, seen_by_segments, seen_by_tables}
use Rattle.smith_decode.specs.Data.{Data}
use Rattle.smith_check_module.specs.Contexts.{spaces_in, context_in}
use Rattle.smith_check_module.specs.ValidModules.{IsConstant, IsTableInitialised, IsElementValid, IsDataModeValid}
use Rattle.smith_check_module.specs.declared.faults.Part.{Part}
use Rattle.smith_check_module.specs.declared.faults.Part.TheVariants as part
use Rattle.smith_check_module.specs.declared.faults.SectionFault.{SectionFault}

-- if there is an item at `index`, it has the property `P`
abbrev pub IsRightAt : {A : Type 0} → List A → ℕ → (A → Type 0) → Type 0
IsRightAt items index P = (item : _) → slice_get items index ≡ Some item → P item

-- an export refers to an entity that exists, and no earlier export has its name (Validation,
-- Exports; Modules)
pub record IsExportRight (spaces : EntitySpaces) (exports : List (List ℕ × ExportKind × ℕ)) (index : ℕ)
    (one : List ℕ × ExportKind × ℕ) : Type 0 where
  pub stands : (ty : EntityType) × IsEntityAt spaces one.1 one.2 ty
  pub unused : (earlier : ℕ) (other : List ℕ × ExportKind × ℕ) → earlier < index → slice_get exports earlier ≡ Some other
      → other.0 ≡ one.0 → ⊥

-- The item at an index of a part is valid (Validation, Modules). Entities are counted in their
-- index space, other items in their section. The first tag, the second table and the second memory
-- require their features (own rule).
abbrev pub IsItemRight : Context → List ℕ → EntitySpaces → Syntax → Part → ℕ → Type 0
IsItemRight context indices spaces m part.Tags index =
    IsRightAt spaces.tags index (λ tag. IsFuncTypeIndex context.types tag × IsTrue context.features.exceptions)
IsItemRight context indices spaces m part.Functions index = IsRightAt spaces.funcs index (IsFuncTypeIndex context.types)
IsItemRight context indices spaces m part.Tables index =
    IsRightAt spaces.tables index (λ table. IsTableValid context.features context.types table
    × (0 < index → IsTrue context.features.reference_types))
IsItemRight context indices spaces m part.Memories index =
    IsRightAt spaces.memories index (λ memory. IsMemoryValid context.features memory
    × (0 < index → IsTrue context.features.multi_memory))
IsItemRight context indices spaces m part.Globals index = IsRightAt spaces.globals index (IsGlobalValid context.features context.types)
IsItemRight context indices spaces m part.TableInitials index =
    IsRightAt m.tables index (IsTableInitialised (seeing context (seen_by_tables context)) indices)
IsItemRight context indices spaces m part.GlobalInitials index =
    IsRightAt m.globals index (λ (global : GlobalType × List Instr). IsConstant
    (seeing context (seen_by_global context (length (imported_spaces m.imports).globals + index))) indices
    (renamed_val (canonical_index indices) global.0.val_type) global.1)
IsItemRight context indices spaces m part.Exports index = IsRightAt m.exports index (IsExportRight spaces m.exports index)
IsItemRight context indices spaces m part.Start index = index ≡ 0 → IsStartValid context.types spaces.funcs m.start
IsItemRight context indices spaces m part.Elements index =
    IsRightAt m.elems index (IsElementValid (seeing context (seen_by_segments context)) indices spaces)
IsItemRight context indices spaces m part.Datas index =
    IsRightAt m.datas index (λ (segment : Data). IsDataModeValid (seeing context (seen_by_segments context)) indices spaces segment.mode)

abbrev pub IsPartRight : Context → List ℕ → EntitySpaces → Syntax → Part → Type 0
IsPartRight context indices spaces m kind = (index : ℕ) → IsItemRight context indices spaces m kind index

-- the parts of a module, in the order in which they are checked (own rule)
abbrev pub parts : List Part
parts =
    part.Tags ∷ part.Functions ∷ part.Tables ∷ part.Memories ∷ part.Globals ∷ part.TableInitials ∷ part.GlobalInitials ∷ part.Exports
    ∷ part.Start ∷ part.Elements ∷ part.Datas ∷ []

-- the item at `index` is invalid, and all items before it are valid
pub record IsFirstWrong (IsRight : ℕ → Type 0) (index : ℕ) : Type 0 where
  pub wrong : IsRight index → ⊥
  pub before : (other : ℕ) → other < index → IsRight other

-- a fault is the first invalid item; all items of earlier parts are valid
pub record IsFirstBy (IsRight : Part → ℕ → Type 0) (fault : SectionFault) : Type 0 where
  pub before : List Part
  pub after : List Part
  pub order : parts ≡ before ++ fault.part ∷ after
  pub earlier : All (λ kind. (index : ℕ) → IsRight kind index) before
  pub first : IsFirstWrong (IsRight fault.part) fault.index

-- a fault is the first invalid item of a module, apart from types and bodies (own rule)
abbrev pub IsFirstFault : Features → List ℕ → Syntax → SectionFault → Type 0
IsFirstFault features indices m fault = IsFirstBy (IsItemRight (context_in features indices m) indices (spaces_in indices m) m) fault
