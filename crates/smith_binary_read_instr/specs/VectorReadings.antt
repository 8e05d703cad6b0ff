-- Readings of vector instructions: the section Binary Format, Instructions, Vector Instructions, of
-- the WebAssembly Core Specification 3.0.
use Rattle.std.specs.Prelude.{ℕ, ◌-◌, nat_lt, ◌==◌, if◌then◌else◌, List, [], ◌∷◌, Option, Some, None, Ok}
use Rattle.smith_binary_read_instr.specs.Common.{fault_at, Instr, joined_at, mapped_at, Reading, UnknownByte, unsigned_at, ◌>>=◌}
use Rattle.smith_binary_read.specs.Readings.{bytes_at}
use Rattle.smith_binary_read.specs.Numbers.{lane_at, vector_at}
use Rattle.smith_instr.specs.declared.instr.Instr.TheVariants as instr
use Rattle.smith_instr.specs.declared.vector.LaneExtract.TheVariants as extract
use Rattle.smith_instr.specs.declared.vector.LaneShape.TheVariants as shape
use Rattle.smith_instr.specs.declared.vector.VectorInstr.{VectorInstr}
use Rattle.smith_instr.specs.declared.vector.VectorInstr.TheVariants as vector
use Rattle.smith_instr.specs.declared.vector.VectorLoad.{VectorLoad}
use Rattle.smith_instr.specs.declared.vector.VectorLoad.TheVariants as load
use Rattle.smith_binary_read_instr.specs.NumericReadings.{item_or}
use Rattle.smith_binary_read_instr.specs.MemoryReadings.{mem_arg_at}
use Rattle.smith_binary_read_instr.specs.VectorRows.{vector_of}

-- the instructions on one lane, but the last, by their numbers from 21 up to 33
abbrev pub lane_rows : List (ℕ × (ℕ → VectorInstr))
lane_rows =
    (21, vector.ExtractLane extract.I8x16S) ∷ (22, vector.ExtractLane extract.I8x16U) ∷ (23, vector.ReplaceLane shape.I8x16) ∷
    (24, vector.ExtractLane extract.I16x8S) ∷ (25, vector.ExtractLane extract.I16x8U) ∷ (26, vector.ReplaceLane shape.I16x8) ∷
    (27, vector.ExtractLane extract.I32x4) ∷ (28, vector.ReplaceLane shape.I32x4) ∷ (29, vector.ExtractLane extract.I64x2) ∷
    (30, vector.ReplaceLane shape.I64x2) ∷ (31, vector.ExtractLane extract.F32x4) ∷ (32, vector.ReplaceLane shape.F32x4) ∷
    (33, vector.ExtractLane extract.F64x2) ∷ []

-- the instruction on a lane with a number from 21 up to 34
unfoldable pub on_lane : ℕ → ℕ → VectorInstr
on_lane number lane = item_or lane_rows (vector.ReplaceLane shape.F64x2) number lane

-- reads an instruction on one lane, with a number from 21 up to 34
unfoldable pub lane_instr_at : ℕ → List ℕ → Reading Instr
lane_instr_at number bytes = mapped_at (λ lane. instr.Vector (on_lane number lane)) lane_at bytes

-- the loads of vectors but the last, by their numbers
abbrev pub vector_load_rows : List (ℕ × VectorLoad)
vector_load_rows =
    (0, load.V128) ∷ (1, load.I8x8S) ∷ (2, load.I8x8U) ∷ (3, load.I16x4S) ∷ (4, load.I16x4U) ∷ (5, load.I32x2S) ∷ (6, load.I32x2U) ∷
    (7, load.Splat8) ∷ (8, load.Splat16) ∷ (9, load.Splat32) ∷ (10, load.Splat64) ∷ (92, load.Zero32) ∷ []

-- the load of a vector with a number up to 10, or 92 or 93
unfoldable pub vector_load_of : ℕ → VectorLoad
vector_load_of number = item_or vector_load_rows load.Zero64 number

-- reads a load of a vector, with a number up to 10, or 92 or 93
unfoldable pub vector_load_at : ℕ → List ℕ → Reading Instr
vector_load_at number bytes = mapped_at (instr.VectorLoad (vector_load_of number)) mem_arg_at bytes

-- reads a load or a store of one lane, with a number from 84 up to 91
unfoldable pub lane_access_at : ℕ → List ℕ → Reading Instr
lane_access_at number bytes =
    if nat_lt number 88 then joined_at (instr.VectorLoadLane (number - 84)) mem_arg_at lane_at bytes
    else joined_at (instr.VectorStoreLane (number - 88)) mem_arg_at lane_at bytes

-- the vector instruction, if there is one, or else the reading `other`
abbrev pub vector_or : Option VectorInstr → List ℕ → Reading Instr → Reading Instr
vector_or (Some op) rest other = Ok (instr.Vector op, rest)
vector_or None rest other = other

-- reads an instruction with immediates, with a number up to 34
unfoldable pub low_vector_at : ℕ → List ℕ → Reading Instr
low_vector_at number bytes =
    if nat_lt number 11 then vector_load_at number bytes
    else (if number == 11 then mapped_at instr.VectorStore mem_arg_at bytes
    else (if number == 12 then mapped_at instr.V128Const vector_at bytes
    else (if number == 13 then mapped_at (λ lanes. instr.Vector (vector.Shuffle lanes)) (bytes_at 16) bytes
    else lane_instr_at number bytes)))

-- reads an instruction after the byte 0xFD
unfoldable pub vector_instr_at : List ℕ → Reading Instr
vector_instr_at bytes = unsigned_at 32 bytes >>= (λ number. vector_or (vector_of number.0) number.1
    (if nat_lt number.0 35 then low_vector_at number.0 number.1
    else (if nat_lt number.0 84 then fault_at UnknownByte bytes
    else (if nat_lt number.0 92 then lane_access_at number.0 number.1
    else (if nat_lt number.0 94 then vector_load_at number.0 number.1
    else fault_at UnknownByte bytes)))))
