-- Equal types: types at the same position of equal groups are equal. The sections Validation,
-- Conventions, Rolling and Unrolling, and Validation, Types, Recursive Types, of the WebAssembly
-- Core Specification 3.0.
use Rattle.std.specs.Prelude.{◌≡◌, ℕ, ◌+◌, ◌-◌, ◌^◌, ◌<◌, ◌≤◌, nat_lt, List, [], ◌∷◌, ◌++◌, map, length, Some, slice_get, slice_index}
use Rattle.std.specs.Prelude.{if◌then◌else◌}
use Rattle.smith_types.specs.Syntax.composite_type.SubType.{SubType}
use Rattle.smith_check_types.specs.Renamed.{renamed}

-- the recursive type index of a position in a group, as a number above all type indices (Rolling
-- and Unrolling)
abbrev pub rec_index : ℕ → ℕ
rec_index place = 2 ^ 32 + place

-- the index of a type in a rolled group that starts at `start`: the canonical index for a type of
-- an earlier group, the recursive type index for a type of the group itself (Rolling and Unrolling)
abbrev pub rolled_index : List ℕ → ℕ → ℕ → ℕ
rolled_index indices start index = if nat_lt index start then slice_index indices index else rec_index (index - start)

-- a group, rolled (Rolling and Unrolling)
abbrev pub rolled : List ℕ → ℕ → List SubType → List SubType
rolled indices start group = map (renamed (rolled_index indices start)) group

-- a defined type: a rolled group, and a position in it (Validation, Conventions, Defined Types)
pub record DefinedType : Type 0 where
  pub group : List SubType
  pub place : ℕ

-- the defined types of a rolled group from position `place` on (Rolling and Unrolling)
abbrev pub defined_in : List SubType → ℕ → List SubType → List DefinedType
defined_in group place [] = []
defined_in group place (t ∷ types) = record { group = group; place = place } ∷ defined_in group (place + 1) types

-- the defined types of groups, the first of which starts at `start`, with canonical indices for the
-- types of earlier groups (Validation, Recursive Types)
abbrev pub defined_from : List ℕ → ℕ → List (List SubType) → List DefinedType
defined_from indices start [] = []
defined_from indices start (group ∷ groups) =
    defined_in (rolled indices start group) 0 group ++ defined_from indices (start + length group) groups

-- the defined types of a module, by their indices (Validation, Modules)
abbrev pub defined_types : List ℕ → List (List SubType) → List DefinedType
defined_types indices groups = defined_from indices 0 groups

-- `first` is the least index of a type that is equal to the type at `index`
pub record IsFirstEqual (types : List DefinedType) (index first : ℕ) : Type 0 where
  pub equal : slice_get types first ≡ slice_get types index
  pub least : (other : ℕ) → slice_get types other ≡ slice_get types index → first ≤ other

-- the canonical index of each type of these groups: the least index of a type that is equal to it
pub record AreCanonical (groups : List (List SubType)) (indices : List ℕ) : Type 0 where
  pub long : length indices ≡ length (defined_types indices groups)
  pub each : (index first : ℕ) → slice_get indices index ≡ Some first → IsFirstEqual (defined_types indices groups) index first
