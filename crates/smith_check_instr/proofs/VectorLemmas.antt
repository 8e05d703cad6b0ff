-- Operands and results of vector instructions.
use Rattle.smith_check_instr.proofs.Common.{[], List, To, ValType, ◌∷◌}
use Rattle.smith_instr.specs.InstrTypes.{IsNumberOrVector}
use Rattle.smith_instr.specs.VectorTypes.{HasVectorType, lanes, extracted}
use Rattle.smith_instr.specs.declared.vector.LaneShape.{LaneShape}
use Rattle.smith_instr.specs.declared.vector.LaneShape.TheVariants as shape
use Rattle.smith_instr.specs.declared.vector.VectorInstr.{VectorInstr}
use Rattle.smith_instr.specs.declared.vector.VectorInstr.TheVariants as vector
use Rattle.smith_check_instr.specs.VectorSignatures.{vector_operands, vector_result, HasLanes}
use Rattle.smith_check_instr.proofs.PlainLemmas.{ArePlain}

pub vector_typed : (op : VectorInstr) (operands results : List ValType) → HasLanes op
    → To operands results (vector_operands op) (vector_result op ∷ []) → HasVectorType op operands results
vector_typed (vector.ExtractLane op lane) operands results there to = (there, to)
vector_typed (vector.ReplaceLane ty lane) operands results there to = (there, to)
vector_typed (vector.Shuffle chosen) operands results there to = (there, to)
vector_typed op operands results there to = to

pub vector_only : (op : VectorInstr) (operands results : List ValType) → HasVectorType op operands results
    → HasLanes op × To operands results (vector_operands op) (vector_result op ∷ [])
vector_only (vector.ExtractLane op lane) operands results typed = typed
vector_only (vector.ReplaceLane ty lane) operands results typed = typed
vector_only (vector.Shuffle chosen) operands results typed = typed
vector_only op operands results typed = (tt, typed)

lane_plain : (ty : LaneShape) → IsNumberOrVector (lanes ty).1
lane_plain shape.I8x16 = tt
lane_plain shape.I16x8 = tt
lane_plain shape.I32x4 = tt
lane_plain shape.I64x2 = tt
lane_plain shape.F32x4 = tt
lane_plain shape.F64x2 = tt

pub vector_operands_plain : (op : VectorInstr) → ArePlain (vector_operands op)
vector_operands_plain (vector.Unary op) = (tt, tt)
vector_operands_plain (vector.FloatUnary op) = (tt, tt)
vector_operands_plain (vector.Binary op) = (tt, (tt, tt))
vector_operands_plain (vector.FloatBinary op) = (tt, (tt, tt))
vector_operands_plain vector.Bitselect = (tt, (tt, (tt, tt)))
vector_operands_plain vector.AnyTrue = (tt, tt)
vector_operands_plain (vector.AllTrue ty) = (tt, tt)
vector_operands_plain (vector.Bitmask ty) = (tt, tt)
vector_operands_plain (vector.Shift op ty) = (tt, (tt, tt))
vector_operands_plain (vector.Splat ty) = (lane_plain ty, tt)
vector_operands_plain (vector.ExtractLane op lane) = (tt, tt)
vector_operands_plain (vector.ReplaceLane ty lane) = (tt, (lane_plain ty, tt))
vector_operands_plain (vector.Shuffle chosen) = (tt, (tt, tt))
vector_operands_plain (vector.RelaxedFloatUnary op) = (tt, tt)
vector_operands_plain (vector.RelaxedBinary op) = (tt, (tt, tt))
vector_operands_plain (vector.RelaxedFloatBinary op) = (tt, (tt, tt))
vector_operands_plain (vector.RelaxedTernary op) = (tt, (tt, (tt, tt)))
vector_operands_plain (vector.RelaxedFloatTernary op) = (tt, (tt, (tt, tt)))

pub vector_result_plain : (op : VectorInstr) → IsNumberOrVector (vector_result op)
vector_result_plain (vector.ExtractLane op lane) = lane_plain (extracted op)
vector_result_plain op = tt
