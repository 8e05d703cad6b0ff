-- The context of an instruction: the section Validation, Contexts, of the WebAssembly Core
-- Specification 3.0.
use Rattle.std.specs.Prelude.{◌≡◌, ◌⊎◌, ℕ, ◌<◌, Bool, true, nat_le, List, [], ◌∷◌, length, slice_get, Some, All, if◌then◌else◌}
use Rattle.std.specs.List.{AllZip, Contains}
use Rattle.smith_instr.specs.Common.{Concrete, Features, HeapType, I32, I64, Ref, reference_to, RefType, TableType, ValType}
use Rattle.smith_types.specs.Entities.{IsFuncAt}
use Rattle.smith_types.specs.Expressions.{IsDefaultable}
use Rattle.smith_types.specs.Subtyping.{IsValBelow}
use Rattle.smith_types.specs.ValidTypes.{IsValTypeValid, IsHeapTypeValid, IsRefTypeValid}
use Rattle.smith_types.specs.Syntax.value_type.HeapType.TheVariants.{Exact}
use Rattle.smith_types.specs.Syntax.composite_type.FuncType.{FuncType}
use Rattle.smith_types.specs.Syntax.composite_type.SubType.{SubType}
use Rattle.smith_types.specs.Syntax.entity_type.GlobalType.{GlobalType}
use Rattle.smith_types.specs.Syntax.entity_type.MemoryType.{MemoryType}
use Rattle.smith_instr.specs.declared.control.BlockType.{BlockType}
use Rattle.smith_instr.specs.declared.control.BlockType.TheVariants as block

-- The context of a body (Validation, Contexts). Imported functions come first in `funcs`. Functions
-- and tags are given by their type indices, element segments by their types, data segments by their
-- number. `references` has the functions that `ref.func` may name, `locals` starts with the
-- parameters, and `labels` has the operand types of a branch to each label, the innermost first.
pub record BodyContext : Type 0 where
  pub features : Features
  pub types : List SubType
  pub funcs : List ℕ
  pub imported_funcs : ℕ
  pub tables : List TableType
  pub memories : List MemoryType
  pub globals : List GlobalType
  pub tags : List ℕ
  pub elems : List RefType
  pub datas : ℕ
  pub references : List ℕ
  pub locals : List ValType
  pub params : ℕ
  pub labels : List (List ValType)
  pub results : List ValType

-- the context with one more label (Validation, Contexts)
abbrev pub labelled : BodyContext → List ValType → BodyContext
labelled context taken = record context { labels = taken ∷ context.labels }

-- a value type is valid (Validation, Value Types)
abbrev pub IsValid : BodyContext → ValType → Type 0
IsValid context value = IsValTypeValid context.features (length context.types) value

-- each value type is valid (Validation, Result Types)
abbrev pub AreValid : BodyContext → List ValType → Type 0
AreValid context values = All (IsValid context) values

-- a heap type is valid (Validation, Heap Types)
abbrev pub IsHeapValid : BodyContext → HeapType → Type 0
IsHeapValid context heap_type = IsHeapTypeValid context.features (length context.types) heap_type

-- a reference type is valid (Validation, Reference Types)
abbrev pub IsRefValid : BodyContext → RefType → Type 0
IsRefValid context reference = IsRefTypeValid context.features (length context.types) reference

-- each type is a subtype of the type at its position in `others`, a list of the same length
-- (Validation, Matching, Result Types)
abbrev pub AreBelow : BodyContext → List ValType → List ValType → Type 0
AreBelow context values others = AllZip (IsValBelow context.types) values others

-- the local at `index` has this type and is set: it is a parameter, has a default value, or is in
-- `set` (Validation, Local Types; Functions)
abbrev pub IsLocalSet : BodyContext → List ℕ → ℕ → ValType → Type 0
IsLocalSet context set index value =
    (slice_get context.locals index ≡ Some value) × ((index < context.params) ⊎ (IsDefaultable value ⊎ Contains set index))

-- the function at `index` has this type (Validation, Contexts)
abbrev pub IsFunction : BodyContext → ℕ → FuncType → Type 0
IsFunction context index function = (ty : ℕ) × (slice_get context.funcs index ≡ Some ty) × IsFuncAt context.types ty function

-- the exceptions of the tag at `index` carry these values (Validation, Tag Types)
abbrev pub IsTag : BodyContext → ℕ → List ValType → Type 0
IsTag context index values =
    (ty : ℕ) × (slice_get context.tags index ≡ Some ty) × IsFuncAt context.types ty (record { params = values; results = [] })

-- the type of a nullable reference (Structure, Reference Types)
abbrev pub nullable_to : HeapType → ValType
nullable_to heap_type = Ref (record { nullable = true; heap_type = heap_type })

-- the type of a reference to a value created with the type at `index`, or to a defined function of
-- that type: exact with custom descriptors (own rule)
abbrev pub created_reference : BodyContext → ℕ → ValType
created_reference context index = reference_to (if context.features.custom_descriptors then Exact index else Concrete index)

-- the type of `ref.func` for a function with this type index; never exact for an imported function
-- (own rule)
abbrev pub reference_to_function : BodyContext → ℕ → ℕ → ValType
reference_to_function context function index =
    if nat_le context.imported_funcs function then created_reference context index else reference_to (Concrete index)

-- the address type of a memory or a table (Validation, Address Types)
abbrev pub address : Bool → ValType
address wide = if wide then I64 else I32

-- a block type is valid over `types`, and has these parameters and results (Validation, Block
-- Types)
abbrev pub IsBlockTypeOver : Features → List SubType → BlockType → List ValType → List ValType → Type 0
IsBlockTypeOver features types block.Empty params results = (params ≡ []) × (results ≡ [])
IsBlockTypeOver features types (block.Value value) params results =
    IsValTypeValid features (length types) value × (params ≡ []) × (results ≡ value ∷ [])
IsBlockTypeOver features types (block.Func index) params results =
    (function : FuncType) × IsFuncAt types index function × (params ≡ function.params) × (results ≡ function.results)

-- a block type is valid, and has these parameters and results (Validation, Block Types)
abbrev pub IsBlockType : BodyContext → BlockType → List ValType → List ValType → Type 0
IsBlockType context ty params results = IsBlockTypeOver context.features context.types ty params results

-- the type [operands] → [results] is [these] → [those] (Validation, Instruction Types)
abbrev pub To : List ValType → List ValType → List ValType → List ValType → Type 0
To operands results these those = (operands ≡ these) × (results ≡ those)
