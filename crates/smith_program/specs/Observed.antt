-- Bodies that mix the values of their locals into three globals, the sinks: one i32 and two i64. Rules
-- of this project.
use Rattle.std.specs.Prelude.{◌≡◌, ℕ, ◌+◌, suc, pos, negsuc, Bool, true, false, Some, List, [], ◌∷◌, ◌++◌, length, slice_get, take}
use Rattle.std.specs.Prelude.{Result, Ok, Err, if◌then◌else◌}
use Rattle.std.specs.List.{flat_map}
use Rattle.smith_bytes.specs.declared.error.Error.{Error}
use Rattle.smith_types.specs.Syntax.code.Code.{Code}
use Rattle.smith_types.specs.Syntax.composite_type.FuncType.{FuncType}
use Rattle.smith_types.specs.Syntax.value_type.ValType.{ValType}
use Rattle.smith_types.specs.Syntax.value_type.ValType.TheVariants.{I32, I64, F32, F64, V128, Ref}
use Rattle.smith_module_rules.specs.Module.{ModuleParts}
use Rattle.smith_instr.specs.declared.instr.Instr.{Instr}
use Rattle.smith_instr.specs.declared.instr.Instr.TheVariants as instr
use Rattle.smith_instr.specs.declared.numeric.Conversion.TheVariants as convert
use Rattle.smith_instr.specs.declared.numeric.FloatCompare.TheVariants as float_compare
use Rattle.smith_instr.specs.declared.numeric.IntBinary.TheVariants as int_binary
use Rattle.smith_instr.specs.declared.numeric.NumericInstr.TheVariants as numeric
use Rattle.smith_instr.specs.declared.vector.LaneExtract.TheVariants as extract
use Rattle.smith_instr.specs.declared.vector.VectorBinary.TheVariants as binary
use Rattle.smith_instr.specs.declared.vector.VectorFloatBinary.TheVariants as float_binary
use Rattle.smith_instr.specs.declared.vector.VectorInstr.TheVariants as vector
use Rattle.wasm_smith.specs.Sinks.{AnswersSinks}
use Rattle.smith_program.specs.Bodies.{HasDefinedType}
use Rattle.smith_program.specs.Parts.{ProgramParts}
use Rattle.smith_program.specs.declared.program.Body.{Body}
use Rattle.smith_program.specs.declared.program.Body.TheVariants as body

-- a sink is rotated left by 5 bits, then combined with a value by exclusive or
abbrev pub mix32 : ℕ → List Instr → List Instr
mix32 sink value =
    instr.GlobalGet sink ∷ instr.I32Const (pos 5) ∷ instr.Numeric (numeric.I32Binary int_binary.Rotl) ∷
    value ++ instr.Numeric (numeric.I32Binary int_binary.Xor) ∷ instr.GlobalSet sink ∷ []

abbrev pub mix64 : ℕ → List Instr → List Instr
mix64 sink value =
    instr.GlobalGet sink ∷ instr.I64Const (pos 5) ∷ instr.Numeric (numeric.I64Binary int_binary.Rotl) ∷
    value ++ instr.Numeric (numeric.I64Binary int_binary.Xor) ∷ instr.GlobalSet sink ∷ []

-- the bits of a float, or the bits of the positive canonical NaN for any NaN
abbrev pub bits32 : ℕ → List Instr
bits32 index =
    instr.LocalGet index ∷ instr.Numeric (numeric.Convert convert.I32ReinterpretF32) ∷ instr.I32Const (pos 0x7FC00000) ∷
    instr.LocalGet index ∷ instr.LocalGet index ∷ instr.Numeric (numeric.F32Compare float_compare.Eq) ∷ instr.Select ∷ []

abbrev pub bits64 : ℕ → List Instr
bits64 index =
    instr.LocalGet index ∷ instr.Numeric (numeric.Convert convert.I64ReinterpretF64) ∷ instr.I64Const (pos 0x7FF8000000000000) ∷
    instr.LocalGet index ∷ instr.LocalGet index ∷ instr.Numeric (numeric.F64Compare float_compare.Eq) ∷ instr.Select ∷ []

-- a half of a vector; it is 0 if one of its two f32 is a NaN. The upper f32 of an f64 that is a NaN is
-- a NaN too
abbrev pub half : ℕ → ℕ → List Instr
half index lane =
    instr.LocalGet index ∷ instr.LocalGet index ∷ instr.LocalGet index ∷ instr.Vector (vector.FloatBinary float_binary.F32x4Eq) ∷
    instr.V128Const (negsuc 0) ∷ instr.Vector (vector.Binary binary.I64x2Eq) ∷ instr.Vector (vector.Binary binary.V128And) ∷
    instr.Vector (vector.ExtractLane extract.I64x2 lane) ∷ []

-- the value of a local of this type is mixed into the sinks from `first` on; references are not mixed
abbrev pub mix : ℕ → ℕ → ValType → List Instr
mix first index I32 = mix32 first (instr.LocalGet index ∷ [])
mix first index I64 = mix64 (first + 1) (instr.LocalGet index ∷ [])
mix first index F32 = mix32 first (bits32 index)
mix first index F64 = mix64 (first + 1) (bits64 index)
mix first index V128 = mix64 (first + 1) (half index 0) ++ mix64 (first + 2) (half index 1)
mix first index (Ref reference) = []

-- the values of locals from an index on, in order
abbrev pub mixes_from : ℕ → ℕ → List ValType → List Instr
mixes_from first index [] = []
mixes_from first index (value ∷ more) = mix first index value ++ mixes_from first (suc index) more

-- the values of the locals of a function, parameters first, or of the first 1000 of them
abbrev pub mixes : ℕ → List ValType → List Instr
mixes first locals = mixes_from first 0 (take 1000 locals)

-- an instruction returns from its function, or branches without a condition: its label may be that of
-- the function
abbrev pub leaves : Instr → Bool
leaves instr.Return = true
leaves (instr.Br label) = true
leaves (instr.BrTable labels other) = true
leaves (instr.ReturnCall function) = true
leaves (instr.ReturnCallIndirect table ty) = true
leaves (instr.ReturnCallRef ty) = true
leaves _ = false

-- an instruction, with `mixed` before it if it leaves
abbrev pub after_mixes : List Instr → Instr → List Instr
after_mixes mixed instruction = (if leaves instruction then mixed else []) ++ instruction ∷ []

-- instructions, with `mixed` before each that leaves, and at the end
abbrev pub observed : List Instr → List Instr → List Instr
observed mixed instructions = flat_map (after_mixes mixed) instructions ++ mixed

-- a body with these locals: raw bytes are kept
abbrev pub observed_body : ℕ → List ValType → Body → Body
observed_body first locals (body.Drawn instructions) = body.Drawn (observed (mixes first locals) instructions)
observed_body first locals body.Raw = body.Raw

-- bodies of a module mix the locals of their functions into the sinks from `first` on
pub record AreObserved (first : ℕ) (m : ModuleParts) (old new : List Body) : Type 0 where
  pub each : length new ≡ length old
  pub in_place : (place : ℕ) (code : Code) (function : FuncType) (body : Body) → slice_get m.code place ≡ Some code
      → HasDefinedType m place function → slice_get old place ≡ Some body
      → slice_get new place ≡ Some (observed_body first (function.params ++ code.locals) body)

-- the result: the index of the first sink, and the bodies mix their locals; or an error, and the
-- program is unchanged
abbrev pub AnswersObserved : ProgramParts → ProgramParts → Result ℕ Error → Type 0
AnswersObserved old new (Ok first) =
    AnswersSinks old.«module» new.«module» (Ok first) × AreObserved first old.«module» old.bodies new.bodies
AnswersObserved old new (Err error) = AnswersSinks old.«module» new.«module» (Err error) × (new.bodies ≡ old.bodies)
