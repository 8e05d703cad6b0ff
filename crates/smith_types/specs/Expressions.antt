-- Constant expressions: the section Validation, Instructions, Constant Expressions, of the
-- WebAssembly Core Specification 3.0. Shared references and exact types follow rules of this
-- project, and so does subtyping (see `Subtyping`).
use Rattle.std.specs.Prelude.{◌≡◌, ℕ, ◌<◌, Bool, true, false, nat_le, IsTrue, List, [], ◌∷◌, ◌++◌, map, replicate, length, slice_get, Some}
use Rattle.std.specs.Prelude.{All, if◌then◌else◌}
use Rattle.std.specs.List.{AllZip}
use Rattle.smith_types.specs.Common.{Abstract, Concrete, ConstInstr, Exact, F32, F64, Features, FieldType, GlobalType, HeapType, I32, I64}
use Rattle.smith_types.specs.Common.{Ref, StorageType, SubType, V128, ValType}
use Rattle.smith_types.specs.Flags.{IsInstrEnabled}
use Rattle.smith_types.specs.Subtyping.{IsValBelow}
use Rattle.smith_types.specs.ValidTypes.{IsHeapTypeValid}
use Rattle.smith_syntax.specs.declared.value_type.AbstractHeapType.TheVariants as abstract
use Rattle.smith_syntax.specs.declared.composite_type.StorageType.TheVariants as storage
use Rattle.smith_syntax.specs.declared.composite_type.CompositeInnerType.TheVariants as inner
use Rattle.smith_syntax.specs.declared.const_instr.ConstInstr.TheVariants as instr

-- the context of a constant expression (Validation, Contexts). Imported functions and globals come
-- first in `funcs` and `globals`; an expression may read only the globals below `visible`.
pub record Context : Type 0 where
  pub features : Features
  pub types : List SubType
  pub funcs : List ℕ
  pub globals : List GlobalType
  pub imported_funcs : ℕ
  pub imported_globals : ℕ
  pub visible : ℕ

-- the type of a non-nullable reference (Structure, Reference Types)
abbrev pub reference_to : HeapType → ValType
reference_to heap_type = Ref (record { nullable = false; heap_type = heap_type })

-- the type of a reference to a value created with the type at `index`, or to a defined function of
-- that type: exact with custom descriptors (own rule)
abbrev pub created : Context → ℕ → ValType
created context index = reference_to (if context.features.custom_descriptors then Exact index else Concrete index)

-- the type of `ref.func` for a function with this type index; never exact for an imported function
-- (own rule)
abbrev pub function_reference : Context → ℕ → ℕ → ValType
function_reference context function index =
    if nat_le context.imported_funcs function then created context index else reference_to (Concrete index)

-- the type of the operand that a field takes: i32 for a packed type, else the value type
-- (Structure, Composite Types)
abbrev pub unpacked : StorageType → ValType
unpacked storage.I8 = I32
unpacked storage.I16 = I32
unpacked (storage.Val value) = value

-- a value type has a default value: any type except a non-nullable reference (Validation, Value
-- Types, Defaultable)
abbrev pub IsDefaultable : ValType → Type 0
IsDefaultable (Ref reference) = IsTrue reference.nullable
IsDefaultable _ = Unit {0}

-- the types of the operands of `struct.new` for these fields (Structure, Composite Types)
abbrev pub field_values : List FieldType → List ValType
field_values fields = map (λ (field : FieldType). unpacked field.element_type) fields

-- the type at `index` is the struct type with these fields (Structure, Composite Types)
abbrev pub IsStructAt : List SubType → ℕ → List FieldType → Type 0
IsStructAt types index fields = (t : SubType) × (slice_get types index ≡ Some t)
    × (t.composite_type.inner ≡ inner.Struct (record { fields = fields }))

-- the type at `index` is the array type with this element (Structure, Composite Types)
abbrev pub IsArrayAt : List SubType → ℕ → FieldType → Type 0
IsArrayAt types index element = (t : SubType) × (slice_get types index ≡ Some t)
    × (t.composite_type.inner ≡ inner.Array (record { 0 = element }))

-- the global at `index` is visible, immutable and of this value type (Validation, Constant
-- Expressions)
abbrev pub IsVisible : Context → ℕ → ValType → Type 0
IsVisible context index value =
    (global : GlobalType) × (slice_get context.globals index ≡ Some global) × (index < context.visible) × (global.mutable ≡ false)
    × (global.val_type ≡ value)

-- a conversion between internal and external references; it preserves nullability (Validation,
-- Instructions, any.convert_extern and extern.convert_any) and sharedness (own rule)
pub record IsConversion (operands : List ValType) (result : ValType) (from into : Bool → HeapType) : Type 0 where
  pub shared : Bool
  pub nullable : Bool
  pub taken : operands ≡ Ref (record { nullable = nullable; heap_type = from shared }) ∷ []
  pub given : result ≡ Ref (record { nullable = nullable; heap_type = into shared })

-- the instruction has the type [operands] → [result], with the last operand on top (Validation,
-- Instructions); the type of a shared i31 is an own rule
abbrev pub HasType : Context → ConstInstr → List ValType → ValType → Type 0
HasType context (instr.I32Const value) operands result = (operands ≡ []) × (result ≡ I32)
HasType context (instr.I64Const value) operands result = (operands ≡ []) × (result ≡ I64)
HasType context (instr.F32Const bits) operands result = (operands ≡ []) × (result ≡ F32)
HasType context (instr.F64Const bits) operands result = (operands ≡ []) × (result ≡ F64)
HasType context (instr.V128Const bits) operands result = (operands ≡ []) × (result ≡ V128)
HasType context (instr.GlobalGet index) operands result = (operands ≡ []) × IsVisible context index result
HasType context (instr.RefNull heap_type) operands result =
    IsHeapTypeValid context.features (length context.types) heap_type × (operands ≡ [])
    × (result ≡ Ref (record { nullable = true; heap_type = heap_type }))
HasType context (instr.RefFunc function) operands result =
    (index : ℕ) × (slice_get context.funcs function ≡ Some index) × (operands ≡ []) × (result ≡ function_reference context function index)
HasType context instr.I32Add operands result = (operands ≡ I32 ∷ I32 ∷ []) × (result ≡ I32)
HasType context instr.I32Sub operands result = (operands ≡ I32 ∷ I32 ∷ []) × (result ≡ I32)
HasType context instr.I32Mul operands result = (operands ≡ I32 ∷ I32 ∷ []) × (result ≡ I32)
HasType context instr.I64Add operands result = (operands ≡ I64 ∷ I64 ∷ []) × (result ≡ I64)
HasType context instr.I64Sub operands result = (operands ≡ I64 ∷ I64 ∷ []) × (result ≡ I64)
HasType context instr.I64Mul operands result = (operands ≡ I64 ∷ I64 ∷ []) × (result ≡ I64)
HasType context instr.RefI31 operands result = (operands ≡ I32 ∷ []) × (result ≡ reference_to (Abstract false abstract.I31))
HasType context instr.RefI31Shared operands result = (operands ≡ I32 ∷ []) × (result ≡ reference_to (Abstract true abstract.I31))
HasType context (instr.StructNew index) operands result =
    (fields : List FieldType) × IsStructAt context.types index fields × (operands ≡ field_values fields) × (result ≡ created context index)
HasType context (instr.StructNewDefault index) operands result =
    (fields : List FieldType) × IsStructAt context.types index fields × All IsDefaultable (field_values fields) × (operands ≡ [])
    × (result ≡ created context index)
HasType context (instr.ArrayNew index) operands result =
    (element : FieldType) × IsArrayAt context.types index element × (operands ≡ unpacked element.element_type ∷ I32 ∷ [])
    × (result ≡ created context index)
HasType context (instr.ArrayNewDefault index) operands result =
    (element : FieldType) × IsArrayAt context.types index element × IsDefaultable (unpacked element.element_type) × (operands ≡ I32 ∷ [])
    × (result ≡ created context index)
HasType context (instr.ArrayNewFixed index size) operands result =
    (element : FieldType) × IsArrayAt context.types index element × (operands ≡ replicate size (unpacked element.element_type))
    × (result ≡ created context index)
HasType context instr.AnyConvertExtern operands result = IsConversion operands result (λ shared. Abstract shared abstract.Extern)
    (λ shared. Abstract shared abstract.Any)
HasType context instr.ExternConvertAny operands result = IsConversion operands result (λ shared. Abstract shared abstract.Any)
    (λ shared. Abstract shared abstract.Extern)

-- an instruction takes the stack `before` to `after`: it pops operands whose types match its
-- operand types, and pushes its result; the last type is on top (Validation, Instruction Sequences)
pub record IsStackStep (context : Context) (instruction : ConstInstr) (before after : List ValType) : Type 0 where
  pub operands : List ValType
  pub result : ValType
  pub typed : HasType context instruction operands result
  pub rest : List ValType
  pub taken : List ValType
  pub on_top : before ≡ rest ++ taken
  pub accepted : AllZip (IsValBelow context.types) taken operands
  pub pushed : after ≡ rest ++ result ∷ []

-- a sequence of instructions takes the stack `before` to `after` (Validation, Instruction
-- Sequences)
abbrev pub AreStackSteps : Context → List ConstInstr → List ValType → List ValType → Type 0
AreStackSteps context [] before after = before ≡ after
AreStackSteps context (instruction ∷ instructions) before after =
    (between : List ValType) × IsStackStep context instruction before between × AreStackSteps context instructions between after

-- a constant expression produces one value, whose type is a subtype of `wanted` (Validation,
-- Constant Expressions); each of its instructions is enabled (own rule)
pub record IsConstExpr (context : Context) (wanted : ValType) (expression : List ConstInstr) : Type 0 where
  pub value : ValType
  pub steps : AreStackSteps context expression [] (value ∷ [])
  pub below : IsValBelow context.types value wanted
  pub enabled : All (IsInstrEnabled context.features context.imported_globals) expression

-- the end of the globals that table initialisers may read: the imported globals (Validation,
-- Modules)
abbrev pub seen_by_tables : Context → ℕ
seen_by_tables context = context.imported_globals

-- the end of the globals that the initialiser of the global at `index` may read: all before it
-- (Validation, Modules), or without garbage collection only the imported globals (own rule)
abbrev pub seen_by_global : Context → ℕ → ℕ
seen_by_global context index = if context.features.gc then index else context.imported_globals

-- the end of the globals that segments may read: all globals (Validation, Modules), or without
-- garbage collection only the imported globals (own rule)
abbrev pub seen_by_segments : Context → ℕ
seen_by_segments context = if context.features.gc then length context.globals else context.imported_globals

-- the context with `visible` as the end of the visible globals (Validation, Modules)
abbrev pub seeing : Context → ℕ → Context
seeing context visible = record context { visible = visible }
