-- Constants of number types: the section Validation, Numeric Instructions, of the WebAssembly Core
-- Specification 3.0.
use Rattle.std.specs.Prelude.{◌≡◌, ℕ, ℤ}
use Rattle.smith_types.specs.Syntax.value_type.ValType.{ValType}
use Rattle.smith_types.specs.Syntax.value_type.ValType.TheVariants.{I32, I64, F32, F64}
use Rattle.smith_instr.specs.declared.instr.Instr.{Instr}
use Rattle.smith_instr.specs.declared.instr.Instr.TheVariants as instr

-- a number type
abbrev pub IsNumber : ValType → Type 0
IsNumber I32 = Unit {0}
IsNumber I64 = Unit {0}
IsNumber F32 = Unit {0}
IsNumber F64 = Unit {0}
IsNumber _ = ⊥

-- a constant of a number type
abbrev pub IsConstantOf : ValType → Instr → Type 0
IsConstantOf I32 instruction = (value : ℤ) × (instruction ≡ instr.I32Const value)
IsConstantOf I64 instruction = (value : ℤ) × (instruction ≡ instr.I64Const value)
IsConstantOf F32 instruction = (value : ℕ) × (instruction ≡ instr.F32Const value)
IsConstantOf F64 instruction = (value : ℕ) × (instruction ≡ instr.F64Const value)
IsConstantOf _ _ = ⊥
