-- Bytes that spell a 32-bit constant. Rules of this project.
use Rattle.std.specs.Prelude.{◌≡◌, ℕ, ℤ, List, [], ◌∷◌, length}
use Rattle.std.specs.Int.{cast_signed, w32}
use Rattle.smith_bytes.specs.Draws.{little_endian}
use Rattle.smith_draw_types.specs.Common.{Config, Joined, SpellsNumber, Where}
use Rattle.smith_types.specs.Syntax.const_instr.ConstInstr.{ConstInstr}
use Rattle.smith_types.specs.Syntax.const_instr.ConstInstr.TheVariants.{I32Const}

-- a signed 32-bit number: its four bytes, least significant first
pub record SpellsI32 (value : ℤ) (piece : List ℕ) : Type 0 where
  pub four : length piece ≡ 4
  pub read : value ≡ cast_signed w32 (little_endian piece)

-- a constant with this value: with extended constants, the choice of a single constant; then the
-- number
abbrev pub SpellsConstant : Config → ℤ → List ℕ → Type 0
SpellsConstant config value = Joined (Where config.extended_const_enabled (SpellsNumber 0 0 1)) (SpellsI32 value)

-- an expression of a single constant
pub record SpellsConstExpr (config : Config) (expression : List ConstInstr) (piece : List ℕ) : Type 0 where
  pub number : ℤ
  pub alone : expression ≡ I32Const number ∷ []
  pub spelled : SpellsConstant config number piece
