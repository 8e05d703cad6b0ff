-- Bodies in which each NaN whose bits an engine chooses becomes the positive canonical one. Three
-- scratch globals hold values meanwhile: an f32, an f64 and a v128. Rules of this project, over the
-- section Execution, Numerics, NaN Propagation, of the WebAssembly Core Specification 3.0.
use Rattle.std.specs.Prelude.{◌≡◌, ℕ, ◌+◌, pos, Bool, Option, Some, None, List, [], ◌∷◌, map, Result, Ok, Err}
use Rattle.std.specs.List.{flat_map}
use Rattle.smith_bytes.specs.declared.error.Error.{Error}
use Rattle.smith_bytes.specs.declared.error.Error.TheVariants.{Memory}
use Rattle.smith_instr.specs.declared.instr.Instr.{Instr}
use Rattle.smith_instr.specs.declared.instr.Instr.TheVariants as instr
use Rattle.smith_instr.specs.declared.numeric.FloatCompare.TheVariants as float_compare
use Rattle.smith_instr.specs.declared.numeric.NumericInstr.TheVariants as numeric
use Rattle.smith_instr.specs.declared.vector.VectorFloatBinary.TheVariants as vector_binary
use Rattle.smith_instr.specs.declared.vector.VectorInstr.TheVariants as vector
use Rattle.wasm_smith.specs.Scratch.{AddsScratch, has_vectors}
use Rattle.smith_program.specs.Nans.{nan_of}
use Rattle.smith_program.specs.Parts.{ProgramParts}
use Rattle.smith_program.specs.declared.nans.Float.{Float}
use Rattle.smith_program.specs.declared.nans.Float.TheVariants.{F32, F64, F32x4, F64x2}
use Rattle.smith_program.specs.declared.program.Body.{Body}
use Rattle.smith_program.specs.declared.program.Body.TheVariants as body

-- The value on the stack goes to a scratch global. Then `chosen` keeps it, or the part of it, that
-- equals itself, and puts `nan` in place of the rest: only a NaN does not equal itself (Execution,
-- Numerics, feq).
abbrev pub canonical_by : ℕ → Instr → Instr → Instr → List Instr
canonical_by scratch nan equal chosen =
    instr.GlobalSet scratch ∷ instr.GlobalGet scratch ∷ nan ∷ instr.GlobalGet scratch ∷ instr.GlobalGet scratch ∷ equal ∷ chosen ∷ []

-- a value of this float, or each lane of this vector, with the canonical NaN in place of any NaN; the
-- canonical NaN has the first bit of the mantissa alone (Structure, Values, Floating-Point)
abbrev pub canonical : ℕ → Float → List Instr
canonical first F32 =
    canonical_by first (instr.F32Const 0x7FC00000) (instr.Numeric (numeric.F32Compare float_compare.Eq)) instr.Select
canonical first F64 =
    canonical_by (first + 1) (instr.F64Const 0x7FF8000000000000) (instr.Numeric (numeric.F64Compare float_compare.Eq)) instr.Select
canonical first F32x4 =
    canonical_by (first + 2) (instr.V128Const (pos 0x7FC000007FC000007FC000007FC00000))
    (instr.Vector (vector.FloatBinary vector_binary.F32x4Eq)) (instr.Vector vector.Bitselect)
canonical first F64x2 =
    canonical_by (first + 2) (instr.V128Const (pos 0x7FF80000000000007FF8000000000000))
    (instr.Vector (vector.FloatBinary vector_binary.F64x2Eq)) (instr.Vector vector.Bitselect)

-- the same for a float that an instruction may give as such a NaN, if any
abbrev pub canonical_if : ℕ → Option Float → List Instr
canonical_if first (Some float) = canonical first float
canonical_if first None = []

-- an instruction, and after it the canonical NaN in place of a NaN whose bits an engine chooses
abbrev pub followed : Bool → ℕ → Instr → List Instr
followed vectors first instruction = instruction ∷ canonical_if first (nan_of vectors instruction)

-- a body with such instructions, whose scratch globals begin at an index; raw bytes are kept
abbrev pub canonical_body : Bool → ℕ → Body → Body
canonical_body vectors first (body.Drawn instructions) = body.Drawn (flat_map (followed vectors first) instructions)
canonical_body vectors first body.Raw = body.Raw

-- the result: the module has the scratch globals, and each body has canonical NaNs; or memory runs
-- out, and the program is unchanged
abbrev pub AnswersCanonical : ProgramParts → ProgramParts → Result (Unit {0}) Error → Type 0
AnswersCanonical old new (Ok u) =
    (first : ℕ) × AddsScratch first old.«module» new.«module»
    × (new.bodies ≡ map (canonical_body (has_vectors old.«module») first) old.bodies)
AnswersCanonical old new (Err error) = (error ≡ Memory) × (new ≡ old)
