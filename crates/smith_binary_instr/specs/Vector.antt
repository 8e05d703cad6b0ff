-- Vector instructions: the section Binary Format, Instructions, Vector Instructions, of the
-- WebAssembly Core Specification 3.0.
use Rattle.std.specs.Prelude.{◌≡◌, ℕ, List, length}
use Rattle.smith_binary_instr.specs.Common.{any, IsByte, IsPrefixedIn, Joined, Spelling}
use Rattle.smith_binary.specs.Pieces.{Is}
use Rattle.smith_instr.specs.declared.vector.VectorInstr.{VectorInstr}
use Rattle.smith_instr.specs.declared.vector.VectorInstr.TheVariants as vector
use Rattle.smith_binary_instr.specs.VectorNumbers.{all_true_number, bitmask_number, extract_number, relaxed_binary_number}
use Rattle.smith_binary_instr.specs.VectorNumbers.{relaxed_float_binary_number, relaxed_float_ternary_number, relaxed_float_unary_number}
use Rattle.smith_binary_instr.specs.VectorNumbers.{relaxed_ternary_number, replace_number, shift_number, splat_number, vector_binary_number}
use Rattle.smith_binary_instr.specs.VectorNumbers.{vector_float_binary_number, vector_float_unary_number, vector_unary_number}

-- the prefix 0xFD and a number (Vector Instructions)
abbrev pub IsNumberedIn : Spelling → ℕ → List ℕ → Type 0
IsNumberedIn spelling number = IsPrefixedIn spelling 0xFD number

abbrev pub IsNumbered : ℕ → List ℕ → Type 0
IsNumbered = IsNumberedIn any

-- sixteen lane indices, each a byte (Vector Instructions)
abbrev pub IsLanes : List ℕ → List ℕ → Type 0
IsLanes lanes piece = (length lanes ≡ 16) × Is lanes piece

-- a vector instruction that accesses no memory (Vector Instructions)
abbrev pub IsVectorInstrIn : Spelling → VectorInstr → List ℕ → Type 0
IsVectorInstrIn spelling (vector.Shuffle lanes) piece = Joined (IsNumberedIn spelling 13) (IsLanes lanes) piece
IsVectorInstrIn spelling (vector.Splat shape) piece = IsNumberedIn spelling (splat_number shape) piece
IsVectorInstrIn spelling (vector.ExtractLane op lane) piece = Joined (IsNumberedIn spelling (extract_number op)) (IsByte lane) piece
IsVectorInstrIn spelling (vector.ReplaceLane shape lane) piece = Joined (IsNumberedIn spelling (replace_number shape)) (IsByte lane) piece
IsVectorInstrIn spelling (vector.Unary op) piece = IsNumberedIn spelling (vector_unary_number op) piece
IsVectorInstrIn spelling (vector.FloatUnary op) piece = IsNumberedIn spelling (vector_float_unary_number op) piece
IsVectorInstrIn spelling (vector.Binary op) piece = IsNumberedIn spelling (vector_binary_number op) piece
IsVectorInstrIn spelling (vector.FloatBinary op) piece = IsNumberedIn spelling (vector_float_binary_number op) piece
IsVectorInstrIn spelling vector.Bitselect piece = IsNumberedIn spelling 82 piece
IsVectorInstrIn spelling vector.AnyTrue piece = IsNumberedIn spelling 83 piece
IsVectorInstrIn spelling (vector.AllTrue shape) piece = IsNumberedIn spelling (all_true_number shape) piece
IsVectorInstrIn spelling (vector.Bitmask shape) piece = IsNumberedIn spelling (bitmask_number shape) piece
IsVectorInstrIn spelling (vector.Shift op shape) piece = IsNumberedIn spelling (shift_number op shape) piece
IsVectorInstrIn spelling (vector.RelaxedFloatUnary op) piece = IsNumberedIn spelling (relaxed_float_unary_number op) piece
IsVectorInstrIn spelling (vector.RelaxedBinary op) piece = IsNumberedIn spelling (relaxed_binary_number op) piece
IsVectorInstrIn spelling (vector.RelaxedFloatBinary op) piece = IsNumberedIn spelling (relaxed_float_binary_number op) piece
IsVectorInstrIn spelling (vector.RelaxedTernary op) piece = IsNumberedIn spelling (relaxed_ternary_number op) piece
IsVectorInstrIn spelling (vector.RelaxedFloatTernary op) piece = IsNumberedIn spelling (relaxed_float_ternary_number op) piece

abbrev pub IsVectorInstr : VectorInstr → List ℕ → Type 0
IsVectorInstr = IsVectorInstrIn any
