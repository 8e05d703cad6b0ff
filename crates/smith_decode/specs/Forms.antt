-- The features that the forms of a module require: its types, instructions, definitions and
-- segments. By a rule of this project, a module may have a form only if its features are enabled;
-- the standard defines one language.
use Rattle.std.specs.Prelude.{◌≡◌, ◌≤◌, ◌^◌, ℕ, ◌⊎◌, IsTrue, IsSome, Option, Some, List, [], ◌∷◌, All, slice_get, take}
use Rattle.smith_decode.specs.Common.{Export, Features, Instr, RefType, TagDefinition}
use Rattle.smith_types.specs.Syntax.entity_type.ExportKind.{ExportKind}
use Rattle.smith_types.specs.Syntax.entity_type.ExportKind.TheVariants as kind
use Rattle.smith_types.specs.Flags.{IsHeapTypeEnabled}
use Rattle.smith_instr.specs.Enabled.{has_features}
use Rattle.smith_instr.specs.declared.control.BlockType.{BlockType}
use Rattle.smith_instr.specs.declared.control.BlockType.TheVariants as block
use Rattle.smith_instr.specs.declared.control.BranchCast.{BranchCast}
use Rattle.smith_instr.specs.declared.instr.Instr.TheVariants as instr
use Rattle.smith_instr.specs.declared.memory.MemArg.{MemArg}
use Rattle.smith_instr.specs.declared.memory.MemoryInstr.{MemoryInstr}
use Rattle.smith_instr.specs.declared.memory.MemoryInstr.TheVariants as memory
use Rattle.smith_instr.specs.declared.reference.ReferenceInstr.{ReferenceInstr}
use Rattle.smith_instr.specs.declared.reference.ReferenceInstr.TheVariants as reference
use Rattle.smith_instr.specs.declared.table.TableInstr.{TableInstr}
use Rattle.smith_instr.specs.declared.table.TableInstr.TheVariants as table
use Rattle.smith_decode.specs.declared.bodies.Body.{Body}
use Rattle.smith_decode.specs.declared.bodies.LocalRun.{LocalRun}
use Rattle.smith_decode.specs.declared.data.DataMode.{DataMode}
use Rattle.smith_decode.specs.declared.data.DataMode.TheVariants as data_mode
use Rattle.smith_decode.specs.declared.data.DataSegment.{DataSegment}
use Rattle.smith_decode.specs.declared.definitions.GlobalDefinition.{GlobalDefinition}
use Rattle.smith_decode.specs.declared.definitions.TableDefinition.{TableDefinition}
use Rattle.smith_decode.specs.declared.elements.ElementItems.{ElementItems}
use Rattle.smith_decode.specs.declared.elements.ElementItems.TheVariants as element_items
use Rattle.smith_decode.specs.declared.elements.ElementMode.{ElementMode}
use Rattle.smith_decode.specs.declared.elements.ElementMode.TheVariants as element_mode
use Rattle.smith_decode.specs.declared.elements.ElementSegment.{ElementSegment}
use Rattle.smith_decode.specs.declared.locations.Place.{Place}
use Rattle.smith_decode.specs.declared.locations.Place.TheVariants as place
use Rattle.smith_decode.specs.declared.modules.Module.{Module}
use Rattle.smith_decode.specs.Definitions.{null_of}
use Rattle.smith_decode.specs.TypeForms.{IsGlobalTypeEnabled, IsGroupEnabled, IsImportGroupEnabled, IsMemoryTypeEnabled}
use Rattle.smith_decode.specs.TypeForms.{IsRefTypeEnabled, IsTableTypeEnabled, IsValTypeEnabled}

-- a block type is enabled: the value type that it may have as its result is (Control Instructions)
abbrev pub IsBlockTypeEnabled : Features → BlockType → Type 0
IsBlockTypeEnabled features (block.Value value) = IsValTypeEnabled features value
IsBlockTypeEnabled features _ = Unit {0}

-- both types of a cast are enabled (Control Instructions)
abbrev pub IsCastEnabled : Features → BranchCast → Type 0
IsCastEnabled features cast = IsRefTypeEnabled features cast.from × IsRefTypeEnabled features cast.to

-- the heap type or the reference type that a reference instruction has as an immediate is enabled
-- (Reference Instructions)
abbrev pub AreReferencesEnabled : Features → ReferenceInstr → Type 0
AreReferencesEnabled features (reference.Null heap_type) = IsHeapTypeEnabled features heap_type
AreReferencesEnabled features (reference.Test to) = IsRefTypeEnabled features to
AreReferencesEnabled features (reference.Cast to) = IsRefTypeEnabled features to
AreReferencesEnabled features _ = Unit {0}

-- the types that an instruction has as immediates are enabled (Control Instructions; Reference
-- Instructions; Parametric Instructions)
abbrev pub AreStatedEnabled : Features → Instr → Type 0
AreStatedEnabled features (instr.Block ty) = IsBlockTypeEnabled features ty
AreStatedEnabled features (instr.Loop ty) = IsBlockTypeEnabled features ty
AreStatedEnabled features (instr.If ty) = IsBlockTypeEnabled features ty
AreStatedEnabled features (instr.TryTable ty clauses) = IsBlockTypeEnabled features ty
AreStatedEnabled features (instr.BrOnCast cast) = IsCastEnabled features cast
AreStatedEnabled features (instr.BrOnCastFail cast) = IsCastEnabled features cast
AreStatedEnabled features (instr.SelectTyped values) = All (IsValTypeEnabled features) values
AreStatedEnabled features (instr.Reference op) = AreReferencesEnabled features op
AreStatedEnabled features _ = Unit {0}

-- a memory index is enabled: any but 0 requires multi-memory (Indices)
abbrev pub IsMemoryNameEnabled : Features → ℕ → Type 0
IsMemoryNameEnabled features index = (index ≡ 0 → ⊥) → IsTrue features.multi_memory

-- a table index is enabled: any but 0 requires reference types (Indices)
abbrev pub IsTableNameEnabled : Features → ℕ → Type 0
IsTableNameEnabled features index = (index ≡ 0 → ⊥) → IsTrue features.reference_types

-- a memory argument is enabled: an offset of 2^32 or more requires 64-bit memories (Memory
-- Instructions)
pub record IsMemArgEnabled (features : Features) (at : MemArg) : Type 0 where
  pub memory : IsMemoryNameEnabled features at.memory
  pub offset : 2 ^ 32 ≤ at.offset → IsTrue features.memory64

-- the memory indices of a memory instruction are enabled (Memory Instructions)
abbrev pub AreMemoriesEnabled : Features → MemoryInstr → Type 0
AreMemoriesEnabled features (memory.Size index) = IsMemoryNameEnabled features index
AreMemoriesEnabled features (memory.Grow index) = IsMemoryNameEnabled features index
AreMemoriesEnabled features (memory.Fill index) = IsMemoryNameEnabled features index
AreMemoriesEnabled features (memory.Copy to from) = IsMemoryNameEnabled features to × IsMemoryNameEnabled features from
AreMemoriesEnabled features (memory.Init index segment) = IsMemoryNameEnabled features index
AreMemoriesEnabled features (memory.DataDrop segment) = Unit {0}

-- the table indices of `table.copy` and `table.init` are enabled (Table Instructions)
abbrev pub AreTablesEnabled : Features → TableInstr → Type 0
AreTablesEnabled features (table.Copy to from) = IsTableNameEnabled features to × IsTableNameEnabled features from
AreTablesEnabled features (table.Init index segment) = IsTableNameEnabled features index
AreTablesEnabled features _ = Unit {0}

-- the table indices of an instruction, and its memory indices and offset, are enabled
-- (Instructions)
abbrev pub AreNamedEnabled : Features → Instr → Type 0
AreNamedEnabled features (instr.CallIndirect table ty) = IsTableNameEnabled features table
AreNamedEnabled features (instr.ReturnCallIndirect table ty) = IsTableNameEnabled features table
AreNamedEnabled features (instr.Table op) = AreTablesEnabled features op
AreNamedEnabled features (instr.Memory op) = AreMemoriesEnabled features op
AreNamedEnabled features (instr.Load op at) = IsMemArgEnabled features at
AreNamedEnabled features (instr.Store op at) = IsMemArgEnabled features at
AreNamedEnabled features (instr.VectorLoad op at) = IsMemArgEnabled features at
AreNamedEnabled features (instr.VectorStore at) = IsMemArgEnabled features at
AreNamedEnabled features (instr.VectorLoadLane log2_bytes at lane) = IsMemArgEnabled features at
AreNamedEnabled features (instr.VectorStoreLane log2_bytes at lane) = IsMemArgEnabled features at
AreNamedEnabled features (instr.Atomic access at) = IsMemArgEnabled features at
AreNamedEnabled features _ = Unit {0}

-- an instruction is enabled, with the types, memories and tables in its immediates (Instructions)
pub record IsInstrEnabled (features : Features) (instruction : Instr) : Type 0 where
  pub own : IsTrue (has_features features instruction)
  pub stated : AreStatedEnabled features instruction
  pub named : AreNamedEnabled features instruction

-- a numeric instruction of a constant expression is enabled: it requires extended constants
-- (Expressions)
abbrev pub IsExtendedEnabled : Features → Instr → Type 0
IsExtendedEnabled features (instr.Numeric op) = IsTrue features.extended_const
IsExtendedEnabled features _ = Unit {0}

-- an instruction of a constant expression is enabled (Expressions)
pub record IsConstantEnabled (features : Features) (instruction : Instr) : Type 0 where
  pub form : IsInstrEnabled features instruction
  pub extended : IsExtendedEnabled features instruction

-- each instruction of a constant expression is enabled (Expressions)
abbrev pub IsExprEnabled : Features → List Instr → Type 0
IsExprEnabled features expression = All (IsConstantEnabled features) expression

-- a table is enabled: an initialiser other than the `ref.null` of its type requires garbage
-- collection (Table Section)
pub record IsTableEnabled (features : Features) (table : TableDefinition) : Type 0 where
  pub ty : IsTableTypeEnabled features table.ty
  pub initial : (table.initial ≡ null_of table.ty.element_type) ⊎ (IsTrue features.gc × IsExprEnabled features table.initial)

-- a tag is enabled (Tag Section)
abbrev pub IsTagEnabled : Features → TagDefinition → Type 0
IsTagEnabled features tag = IsTrue features.exceptions

-- a global is enabled (Global Section)
pub record IsGlobalEnabled (features : Features) (global : GlobalDefinition) : Type 0 where
  pub ty : IsGlobalTypeEnabled features global.ty
  pub initial : IsExprEnabled features global.initial

-- the kind of an export is enabled: tags require exceptions (Export Section)
abbrev pub IsKindEnabled : Features → ExportKind → Type 0
IsKindEnabled features kind.Tag = IsTrue features.exceptions
IsKindEnabled features _ = Unit {0}

-- an export is enabled: its kind is (Export Section)
abbrev pub IsExportEnabled : Features → Export → Type 0
IsExportEnabled features item = IsKindEnabled features item.kind

-- the items of an element segment are enabled: expressions require reference types, function
-- indices no feature (Element Section)
abbrev pub AreItemsEnabled : Features → RefType → ElementItems → Type 0
AreItemsEnabled features ty (element_items.Functions functions) = Unit {0}
AreItemsEnabled features ty (element_items.Expressions expressions) =
    IsTrue features.reference_types × IsRefTypeEnabled features ty × All (IsExprEnabled features) expressions

-- the mode of an element segment is enabled: modes other than active require bulk memory, and a
-- table index other than 0 reference types (Element Section)
abbrev pub IsElementModeEnabled : Features → ElementMode → Type 0
IsElementModeEnabled features element_mode.Passive = IsTrue features.bulk_memory
IsElementModeEnabled features element_mode.Declared = IsTrue features.bulk_memory
IsElementModeEnabled features (element_mode.Active table offset) =
    IsTableNameEnabled features table × IsExprEnabled features offset

-- an element segment is enabled: its items and its mode are (Element Section)
pub record IsElementEnabled (features : Features) (segment : ElementSegment) : Type 0 where
  pub items : AreItemsEnabled features segment.ty segment.items
  pub mode : IsElementModeEnabled features segment.mode

-- the mode of a data segment is enabled: a passive segment requires bulk memory, and a memory index
-- other than 0 multi-memory (Data Section)
abbrev pub IsDataModeEnabled : Features → DataMode → Type 0
IsDataModeEnabled features data_mode.Passive = IsTrue features.bulk_memory
IsDataModeEnabled features (data_mode.Active memory offset) =
    IsMemoryNameEnabled features memory × IsExprEnabled features offset

-- a data segment is enabled: its mode is (Data Section)
abbrev pub IsDataEnabled : Features → DataSegment → Type 0
IsDataEnabled features segment = IsDataModeEnabled features segment.mode

-- all features that a value type may require, or an instruction on references or aggregates (own
-- rule)
pub record HasTypeFeatures (features : Features) : Type 0 where
  pub reference_types : IsTrue features.reference_types
  pub function_references : IsTrue features.function_references
  pub gc : IsTrue features.gc
  pub exceptions : IsTrue features.exceptions
  pub simd : IsTrue features.simd
  pub shared : IsTrue features.shared_everything_threads
  pub custom_descriptors : IsTrue features.custom_descriptors

-- all other features that an instruction may require (own rule)
pub record HasInstrFeatures (features : Features) : Type 0 where
  pub saturating_float_to_int : IsTrue features.saturating_float_to_int
  pub sign_extension : IsTrue features.sign_extension
  pub wide_arithmetic : IsTrue features.wide_arithmetic
  pub relaxed_simd : IsTrue features.relaxed_simd
  pub bulk_memory : IsTrue features.bulk_memory
  pub multi_value : IsTrue features.multi_value
  pub tail_call : IsTrue features.tail_call
  pub threads : IsTrue features.threads
  pub multi_memory : IsTrue features.multi_memory
  pub memory64 : IsTrue features.memory64

-- all features that a body may require (own rule)
abbrev pub HasBodyFeatures : Features → Type 0
HasBodyFeatures features = HasTypeFeatures features × HasInstrFeatures features

-- a body is enabled (Code Section)
pub record IsBodyEnabled (features : Features) (body : Body) : Type 0 where
  pub locals : All (λ (run : LocalRun). IsValTypeEnabled features run.ty) body.locals
  pub instructions : All (IsInstrEnabled features) body.instructions

-- a data count section is enabled (Data Count Section)
abbrev pub IsCountEnabled : Features → Option ℕ → Type 0
IsCountEnabled features count = IsSome count → IsTrue features.bulk_memory

-- for each section in order, the proposition that its forms are enabled (Modules)
abbrev pub forms_of : Features → Module → List (Type 0)
forms_of features m =
    All (IsGroupEnabled features) m.types
    ∷ All (IsImportGroupEnabled features) m.imports
    ∷ All (IsTableEnabled features) m.tables
    ∷ All (IsMemoryTypeEnabled features) m.memories
    ∷ All (IsTagEnabled features) m.tags
    ∷ All (IsGlobalEnabled features) m.globals
    ∷ All (IsExportEnabled features) m.exports
    ∷ All (IsElementEnabled features) m.elements
    ∷ IsCountEnabled features m.data_count
    ∷ All (IsBodyEnabled features) m.bodies
    ∷ All (IsDataEnabled features) m.datas ∷ []

-- each of these propositions holds
abbrev pub Each : List (Type 0) → Type 0
Each [] = Unit {0}
Each (P ∷ properties) = P × Each properties

-- the forms of a module are enabled (Modules)
abbrev pub AreFormsEnabled : Features → Module → Type 0
AreFormsEnabled features m = Each (forms_of features m)

-- the item at `index` is the first that lacks the property `P`
pub record IsFirstOff {A : Type 0} (P : A → Type 0) (items : List A) (index : ℕ) : Type 0 where
  pub item : A
  pub stands : slice_get items index ≡ Some item
  pub off : P item → ⊥
  pub before : All P (take index items)

-- the item at a place is the first whose form is not enabled; all sections before it are enabled
abbrev pub IsOffAt : Features → Module → Place → Type 0
IsOffAt features m (place.Types index) = IsFirstOff (IsGroupEnabled features) m.types index
IsOffAt features m (place.Imports index) = Each (take 1 (forms_of features m)) × IsFirstOff (IsImportGroupEnabled features) m.imports index
IsOffAt features m (place.Table index) = Each (take 2 (forms_of features m)) × IsFirstOff (IsTableEnabled features) m.tables index
IsOffAt features m (place.Memory index) = Each (take 3 (forms_of features m)) × IsFirstOff (IsMemoryTypeEnabled features) m.memories index
IsOffAt features m (place.Tag index) = Each (take 4 (forms_of features m)) × IsFirstOff (IsTagEnabled features) m.tags index
IsOffAt features m (place.Global index) = Each (take 5 (forms_of features m)) × IsFirstOff (IsGlobalEnabled features) m.globals index
IsOffAt features m (place.Export index) = Each (take 6 (forms_of features m)) × IsFirstOff (IsExportEnabled features) m.exports index
IsOffAt features m (place.Element index) = Each (take 7 (forms_of features m)) × IsFirstOff (IsElementEnabled features) m.elements index
IsOffAt features m place.DataCount = Each (take 8 (forms_of features m)) × (IsCountEnabled features m.data_count → ⊥)
IsOffAt features m (place.Body index) = Each (take 9 (forms_of features m)) × IsFirstOff (IsBodyEnabled features) m.bodies index
IsOffAt features m (place.Data index) = Each (take 10 (forms_of features m)) × IsFirstOff (IsDataEnabled features) m.datas index
IsOffAt features m _ = ⊥
