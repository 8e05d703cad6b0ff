-- The operands and the results of vector instructions: the section Validation, Vector Instructions,
-- of the WebAssembly Core Specification 3.0.
use Rattle.std.specs.Prelude.{ℕ, ◌<◌, List, [], ◌∷◌, All}
use Rattle.smith_types.specs.Syntax.value_type.ValType.{ValType}
use Rattle.smith_types.specs.Syntax.value_type.ValType.TheVariants.{I32, V128}
use Rattle.smith_instr.specs.VectorTypes.{lanes, extracted}
use Rattle.smith_instr.specs.declared.vector.VectorInstr.{VectorInstr}
use Rattle.smith_instr.specs.declared.vector.VectorInstr.TheVariants as vector

-- the operands of a vector instruction, the last on top (Validation, Vector Instructions)
abbrev pub vector_operands : VectorInstr → List ValType
vector_operands (vector.Unary op) = V128 ∷ []
vector_operands (vector.FloatUnary op) = V128 ∷ []
vector_operands (vector.Binary op) = V128 ∷ V128 ∷ []
vector_operands (vector.FloatBinary op) = V128 ∷ V128 ∷ []
vector_operands vector.Bitselect = V128 ∷ V128 ∷ V128 ∷ []
vector_operands vector.AnyTrue = V128 ∷ []
vector_operands (vector.AllTrue shape) = V128 ∷ []
vector_operands (vector.Bitmask shape) = V128 ∷ []
vector_operands (vector.Shift op shape) = V128 ∷ I32 ∷ []
vector_operands (vector.Splat shape) = (lanes shape).1 ∷ []
vector_operands (vector.ExtractLane op lane) = V128 ∷ []
vector_operands (vector.ReplaceLane shape lane) = V128 ∷ (lanes shape).1 ∷ []
vector_operands (vector.Shuffle chosen) = V128 ∷ V128 ∷ []
vector_operands (vector.RelaxedFloatUnary op) = V128 ∷ []
vector_operands (vector.RelaxedBinary op) = V128 ∷ V128 ∷ []
vector_operands (vector.RelaxedFloatBinary op) = V128 ∷ V128 ∷ []
vector_operands (vector.RelaxedTernary op) = V128 ∷ V128 ∷ V128 ∷ []
vector_operands (vector.RelaxedFloatTernary op) = V128 ∷ V128 ∷ V128 ∷ []

-- the result of a vector instruction (Validation, Vector Instructions)
abbrev pub vector_result : VectorInstr → ValType
vector_result vector.AnyTrue = I32
vector_result (vector.AllTrue shape) = I32
vector_result (vector.Bitmask shape) = I32
vector_result (vector.ExtractLane op lane) = (lanes (extracted op)).1
vector_result _ = V128

-- the lanes in an instruction's immediates exist (Validation, Vector Instructions)
abbrev pub HasLanes : VectorInstr → Type 0
HasLanes (vector.ExtractLane op lane) = lane < (lanes (extracted op)).0
HasLanes (vector.ReplaceLane shape lane) = lane < (lanes shape).0
HasLanes (vector.Shuffle chosen) = All (λ (lane : ℕ). lane < 32) chosen
HasLanes _ = Unit {0}
