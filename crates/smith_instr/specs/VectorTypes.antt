-- The types of vector instructions: the section Validation, Vector Instructions, of the WebAssembly
-- Core Specification 3.0.
use Rattle.std.specs.Prelude.{ℕ, ◌<◌, List, [], ◌∷◌, All}
use Rattle.smith_instr.specs.Common.{F32, F64, I32, I64, V128, ValType}
use Rattle.smith_instr.specs.Contexts.{To}
use Rattle.smith_instr.specs.declared.vector.LaneShape.{LaneShape}
use Rattle.smith_instr.specs.declared.vector.LaneShape.TheVariants as shape
use Rattle.smith_instr.specs.declared.vector.LaneExtract.{LaneExtract}
use Rattle.smith_instr.specs.declared.vector.LaneExtract.TheVariants as extract
use Rattle.smith_instr.specs.declared.vector.VectorInstr.{VectorInstr}
use Rattle.smith_instr.specs.declared.vector.VectorInstr.TheVariants as vector

-- the number of lanes of a shape, and the unpacked type of a lane (Validation, Vector Instructions)
abbrev pub lanes : LaneShape → ℕ × ValType
lanes shape.I8x16 = (16, I32)
lanes shape.I16x8 = (8, I32)
lanes shape.I32x4 = (4, I32)
lanes shape.I64x2 = (2, I64)
lanes shape.F32x4 = (4, F32)
lanes shape.F64x2 = (2, F64)

-- the shape of the vector from which a lane is extracted (Validation, Vector Instructions)
abbrev pub extracted : LaneExtract → LaneShape
extracted extract.I8x16S = shape.I8x16
extracted extract.I8x16U = shape.I8x16
extracted extract.I16x8S = shape.I16x8
extracted extract.I16x8U = shape.I16x8
extracted extract.I32x4 = shape.I32x4
extracted extract.I64x2 = shape.I64x2
extracted extract.F32x4 = shape.F32x4
extracted extract.F64x2 = shape.F64x2

-- a vector instruction that accesses no memory has the type [operands] → [results] (Validation,
-- Vector Instructions)
abbrev pub HasVectorType : VectorInstr → List ValType → List ValType → Type 0
HasVectorType (vector.Unary op) operands results = To operands results (V128 ∷ []) (V128 ∷ [])
HasVectorType (vector.FloatUnary op) operands results = To operands results (V128 ∷ []) (V128 ∷ [])
HasVectorType (vector.Binary op) operands results = To operands results (V128 ∷ V128 ∷ []) (V128 ∷ [])
HasVectorType (vector.FloatBinary op) operands results = To operands results (V128 ∷ V128 ∷ []) (V128 ∷ [])
HasVectorType vector.Bitselect operands results = To operands results (V128 ∷ V128 ∷ V128 ∷ []) (V128 ∷ [])
HasVectorType vector.AnyTrue operands results = To operands results (V128 ∷ []) (I32 ∷ [])
HasVectorType (vector.AllTrue ty) operands results = To operands results (V128 ∷ []) (I32 ∷ [])
HasVectorType (vector.Bitmask ty) operands results = To operands results (V128 ∷ []) (I32 ∷ [])
HasVectorType (vector.Shift op ty) operands results = To operands results (V128 ∷ I32 ∷ []) (V128 ∷ [])
HasVectorType (vector.Splat ty) operands results = To operands results ((lanes ty).1 ∷ []) (V128 ∷ [])
HasVectorType (vector.ExtractLane op lane) operands results =
    (lane < (lanes (extracted op)).0) × To operands results (V128 ∷ []) ((lanes (extracted op)).1 ∷ [])
HasVectorType (vector.ReplaceLane ty lane) operands results =
    (lane < (lanes ty).0) × To operands results (V128 ∷ (lanes ty).1 ∷ []) (V128 ∷ [])
HasVectorType (vector.Shuffle chosen) operands results = All (λ (lane : ℕ). lane < 32) chosen × To operands results (V128 ∷ V128 ∷ [])
    (V128 ∷ [])
HasVectorType (vector.RelaxedFloatUnary op) operands results = To operands results (V128 ∷ []) (V128 ∷ [])
HasVectorType (vector.RelaxedBinary op) operands results = To operands results (V128 ∷ V128 ∷ []) (V128 ∷ [])
HasVectorType (vector.RelaxedFloatBinary op) operands results = To operands results (V128 ∷ V128 ∷ []) (V128 ∷ [])
HasVectorType (vector.RelaxedTernary op) operands results = To operands results (V128 ∷ V128 ∷ V128 ∷ []) (V128 ∷ [])
HasVectorType (vector.RelaxedFloatTernary op) operands results = To operands results (V128 ∷ V128 ∷ V128 ∷ []) (V128 ∷ [])
