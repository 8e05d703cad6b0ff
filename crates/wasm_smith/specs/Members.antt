-- Modules with given types and functions, and otherwise only globals and passive data. Rules of
-- this project.
use Rattle.std.specs.Prelude.{◌≡◌, ℕ, ℤ, List, [], ◌∷◌, None, map}
use Rattle.wasm_smith.specs.Common.{ConstInstr, I32Const, ModuleParts, space_of, SubType}
use Rattle.smith_types.specs.Syntax.segments.DataSegmentKind.TheVariants.{Passive}
use Rattle.smith_draw_types.specs.SpelledGlobals.{mutable_i32}

-- a module has these types and functions
pub record HasMember (groups : List (List SubType)) (funcs : List ℕ) (m : ModuleParts) : Type 0 where
  pub types : m.types ≡ (space_of groups).types
  pub groups_are : m.groups ≡ (space_of groups).groups
  pub funcs_are : m.funcs ≡ funcs

-- a module has globals with these numbers and these passive data segments, and no table, memory,
-- export, start function or element segment
pub record HasRest (numbers : List ℤ) (passive : List (List ℕ)) (m : ModuleParts) : Type 0 where
  pub tables : m.tables ≡ []
  pub memories : m.memories ≡ []
  pub globals : m.globals ≡ map (λ number. mutable_i32) numbers
  pub initials : map (λ (one : ℕ × List ConstInstr). one.1) m.defined_globals ≡ map (λ number. I32Const number ∷ []) numbers
  pub exports : m.exports ≡ []
  pub start : m.start ≡ None
  pub elems : m.elems ≡ []
  pub data_segments : m.datas ≡ map (λ bytes. record { kind = Passive; init = bytes }) passive
