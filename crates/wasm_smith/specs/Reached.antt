-- The modules whose types and functions, and rest, the source spells. Rules of this project, for a
-- sanitised configuration.
use Rattle.std.specs.Prelude.{◌≡◌, ℕ, ℤ, List, ◌++◌, Result, MatchResult}
use Rattle.wasm_smith.specs.Common.{Config, Error, Memory, ModuleParts, SubType}
use Rattle.smith_spell.specs.SpellAnswers.{IsSpellable}
use Rattle.smith_spell.specs.Spelling.{SpellsMember, SpellsRest, IsRest}
use Rattle.wasm_smith.specs.Members.{HasMember, HasRest}

-- the source begins with a spelling of these types and functions, which can be spelled, and then
-- has the bytes `remaining`
pub record BeginsWithMember (config : Config) (groups : List (List SubType)) (funcs bytes remaining : List ℕ) : Type 0 where
  pub spellable : IsSpellable config groups funcs
  pub piece : List ℕ
  pub spelled : SpellsMember config groups funcs piece
  pub parts : bytes ≡ piece ++ remaining

-- the bytes after the spelling of types and functions begin with a spelling of these numbers and
-- byte lists, which may follow
pub record BeginsWithRest (config : Config) (groups : List (List SubType)) (funcs : List ℕ) (numbers : List ℤ) (passive : List (List ℕ))
    (bytes : List ℕ) : Type 0 where
  pub may_stand : IsRest config numbers passive
  pub piece : List ℕ
  pub after : List ℕ
  pub spelled : SpellsRest config groups funcs numbers passive piece
  pub parts : bytes ≡ piece ++ after

-- a module has the types and functions with whose spelling the source begins, unless memory runs
-- out
abbrev pub ReachesMembers : Config → List ℕ → Result ModuleParts Error → Type 0
ReachesMembers config bytes answer =
    (groups : List (List SubType)) (funcs remaining : List ℕ) → BeginsWithMember config groups funcs bytes remaining
    → MatchResult answer (HasMember groups funcs) (λ e. e ≡ Memory)

-- a module has the rest whose spelling follows, unless memory runs out
abbrev pub ReachesRests : Config → List ℕ → Result ModuleParts Error → Type 0
ReachesRests config bytes answer =
    (groups : List (List SubType)) (funcs remaining : List ℕ) (numbers : List ℤ) (passive : List (List ℕ))
    → BeginsWithMember config groups funcs bytes remaining
    → BeginsWithRest config groups funcs numbers passive remaining → MatchResult answer (HasRest numbers passive) (λ e. e ≡ Memory)
