-- The globals that an offset may read, by their types alone. Rules of this project.
use Rattle.std.specs.Prelude.{◌≡◌, ℕ, ◌<◌, ◌≤◌, ◌^◌, Bool, not, ◌&&◌, false, List, length}
use Rattle.smith_types.specs.Syntax.entity_type.GlobalType.{GlobalType}
use Rattle.smith_types.specs.Syntax.value_type.ValType.{ValType}
use Rattle.smith_types.specs.Syntax.value_type.ValType.TheVariants.{I32, I64}
use Rattle.smith_draw_consts.specs.ConstOffers.{each_from, offered_if}

-- whether a type is the address type of this width
abbrev pub is_address : Bool → ValType → Bool
is_address wide I32 = not wide
is_address wide I64 = wide
is_address wide _ = false

-- whether an offset of this width may read a global if it is visible
abbrev pub tells_offset : Bool → GlobalType → Bool
tells_offset wide global = not global.mutable && is_address wide global.val_type

-- the indices, from a start on, of the globals that an offset may read
abbrev pub telling_from : Bool → ℕ → List GlobalType → List ℕ
telling_from wide start globals = each_from (λ index (global : GlobalType). offered_if (tells_offset wide global) index) start globals

-- the number of these globals that an offset may read; all indices have 32 bits
pub record AreCounted (wide : Bool) (globals : List GlobalType) (count : ℕ) : Type 0 where
  pub counted : count ≡ length (telling_from wide 0 globals)
  pub within : count ≤ length globals
  pub few : length globals < 2 ^ 32
