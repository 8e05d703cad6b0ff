-- Bytes that spell the type of a global that is a mutable 32-bit number. Rules of this project.
use Rattle.std.specs.Prelude.{ℕ, ◌-◌, true, false, List, length}
use Rattle.smith_draw_types.specs.Common.{Config, Joined, SpellsBool, SpellsNumber}
use Rattle.smith_types.specs.Syntax.value_type.ValType.TheVariants.{I32}
use Rattle.smith_types.specs.Syntax.entity_type.GlobalType.{GlobalType}
use Rattle.smith_draw_types.specs.Choices.{enabled}
use Rattle.smith_draw_types.specs.ValueTypes.{value_classes}
use Rattle.smith_draw_types.specs.Spelling.{SpellsUnshared}

-- a mutable, unshared 32-bit number
abbrev pub mutable_i32 : GlobalType
mutable_i32 = record { val_type = I32; mutable = true; shared = false }

-- the type of a mutable, unshared 32-bit number: its class, unshared, mutable
abbrev pub SpellsMutableI32 : Config → List ℕ → Type 0
SpellsMutableI32 config =
    Joined (SpellsNumber 0 0 (length (enabled (value_classes config)) - 1)) (Joined (SpellsUnshared config) (SpellsBool true))
