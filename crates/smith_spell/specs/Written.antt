-- The bytes that a writer adds.
use Rattle.std.specs.Prelude.{◌≡◌, ℕ, ◌<◌, ◌≤◌, List, ◌++◌, Some, length, take, slice_get, slice_index_or}
use Rattle.std.specs.List.{list_any}
use Rattle.smith_bytes.specs.Draws.{big_endian, digit_count}
use Rattle.smith_types.specs.Syntax.composite_type.SubType.{SubType}
use Rattle.smith_config.specs.declared.config.Config.{Config}
use Rattle.smith_draw_types.specs.Spelling.{is_open}
use Rattle.smith_spell.specs.Family.{IsMemberType}
use Rattle.smith_draw_types.specs.TypeUses.{func_types}
use Rattle.smith_spell.specs.declared.sub_types.Before.{Before}

-- the new bytes are the old bytes followed by a piece that `Spells` accepts
pub record Writes (Spells : List ℕ → Type 0) (old new : List ℕ) : Type 0 where
  pub piece : List ℕ
  pub spelled : Spells piece
  pub whole : new ≡ old ++ piece

-- a number in as many base-256 digits as the maximum has, most significant first
pub record SpellsDigits (number most : ℕ) (piece : List ℕ) : Type 0 where
  pub digits : length piece ≡ digit_count most
  pub read : big_endian piece ≡ number

-- the number of types, and whether some type may have subtypes
pub record IsSummary (types : List SubType) (before : Before) : Type 0 where
  pub counted : before.count ≡ length types
  pub open_told : before.has_open ≡ list_any is_open types

-- a property holds for some list of types that is no longer than the limit
pub record OverSome (limit : ℕ) (Holds : List SubType → Type 0) : Type 0 where
  pub types : List SubType
  pub few : length types ≤ limit
  pub holds : Holds types

-- each type is allowed after the types before it
abbrev pub AreMembers : Config → List SubType → Type 0
AreMembers config types = (index : ℕ) (t : SubType) → slice_get types index ≡ Some t → IsMemberType config (take index types) t

-- for each type, the number of types before it that a function may have
pub record ArePlaces (types : List SubType) (places : List ℕ) : Type 0 where
  pub sized : length places ≡ length types
  pub told : (i d : ℕ) → i < length types → slice_index_or places i d ≡ length (func_types (take i types))
