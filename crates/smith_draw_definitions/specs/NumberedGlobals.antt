-- The bytes that spell mutable 32-bit globals. Rules of this project.
use Rattle.std.specs.Prelude.{◌≡◌, ℕ, ℤ, List, [], ◌∷◌, map}
use Rattle.smith_bytes.specs.Spelling.{Listed}
use Rattle.smith_draw_definitions.specs.Common.{Config, ConstInstr, GlobalType}
use Rattle.smith_types.specs.Syntax.const_instr.ConstInstr.TheVariants.{I32Const}
use Rattle.smith_draw_types.specs.SpelledGlobals.{mutable_i32}
use Rattle.smith_draw_types.specs.SpelledParts.{SpellsGlobal}

-- globals and their initialisers, one for each number
pub record SpellsGlobals (config : Config) (globals : List GlobalType × List (List ConstInstr)) (piece : List ℕ) : Type 0 where
  pub numbers : List ℤ
  pub types : globals.0 ≡ map (λ number. mutable_i32) numbers
  pub initials : globals.1 ≡ map (λ number. I32Const number ∷ []) numbers
  pub spelled : Listed (SpellsGlobal config) config.max_globals numbers piece
