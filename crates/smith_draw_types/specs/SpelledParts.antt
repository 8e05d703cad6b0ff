-- The bytes that spell tags, functions, globals and data of a module. Rules of this project, for a
-- sanitised configuration.
use Rattle.std.specs.Prelude.{◌≡◌, ℕ, ◌&&◌, nat_lt, true, false, if◌then◌else◌, ℤ, List, [], ◌∷◌, length}
use Rattle.smith_draw_types.specs.Common.{Config, Joined, list_any, SpellsBool, SubType, Where}
use Rattle.smith_bytes.specs.Spelling.{Listed}
use Rattle.smith_draw_types.specs.Spelling.{SpellsPlace}
use Rattle.smith_draw_types.specs.SpelledConstants.{SpellsConstant}
use Rattle.smith_draw_types.specs.SpelledGlobals.{SpellsMutableI32}
use Rattle.smith_draw_types.specs.TypeUses.{is_tag_type, func_types, is_start_type}

-- no tag: one false bool if a tag is possible
abbrev pub SpellsNoTag : Config → List SubType → List ℕ → Type 0
SpellsNoTag config types = Where (config.exceptions_enabled && nat_lt 0 config.max_tags && list_any is_tag_type types) (SpellsBool false)

-- functions, each by the position of its type among the types that a function may have; without
-- such a type, no function and no byte
abbrev pub SpellsFuncs : Config → List SubType → List ℕ → List ℕ → Type 0
SpellsFuncs config types funcs =
    Listed (SpellsPlace (func_types types)) (if nat_lt 0 (length (func_types types)) then config.max_funcs else 0) funcs

-- a mutable global with this number: its type, then its constant
unfoldable pub SpellsGlobal : Config → ℤ → List ℕ → Type 0
SpellsGlobal config value = Joined (SpellsMutableI32 config) (SpellsConstant config value)

-- bytes, each after a true bool, then a false bool
unfoldable pub SpellsBytes : List ℕ → List ℕ → Type 0
SpellsBytes [] piece = SpellsBool false piece
SpellsBytes (byte ∷ bytes) piece = Joined (SpellsBool true) (Joined (λ one. one ≡ byte ∷ []) (SpellsBytes bytes)) piece

-- no start function: one false bool if one is possible
abbrev pub SpellsNoStart : Config → List SubType → List ℕ → List ℕ → Type 0
SpellsNoStart config types funcs = Where (config.allow_start_export && list_any (is_start_type types) funcs) (SpellsBool false)
