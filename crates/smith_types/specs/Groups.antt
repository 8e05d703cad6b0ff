-- Types given in their groups, as lists of lists: the section Structure, Types, Recursive Types, of
-- the WebAssembly Core Specification 3.0.
use Rattle.std.specs.Prelude.{◌≡◌, ℕ, ◌+◌, ◌<◌, List, [], ◌∷◌, Some, length, slice_get}
use Rattle.smith_types.specs.Common.{flat_map, Range, SubType}
use Rattle.smith_types.specs.GroupedTypes.{GroupedTypes}
use Rattle.smith_types.specs.Types.{IsAlike}

-- the ranges of consecutive groups (Structure, Recursive Types)
abbrev pub ranges_from : ℕ → List (List SubType) → List (Range ℕ)
ranges_from start [] = []
ranges_from start (group ∷ groups) = record { start = start; end = start + length group } ∷ ranges_from (start + length group) groups

-- the types of the groups, and the groups as ranges (Structure, Recursive Types)
abbrev pub space_of : List (List SubType) → GroupedTypes
space_of groups = record { types = flat_map (λ group. group) groups; groups = ranges_from 0 groups }

-- each declared supertype precedes its subtype and has the same kind and sharedness (Validation,
-- Recursive Types; sharedness: own rule)
pub record AreFollowing (types : List SubType) : Type 0 where
  pub under : (i s : ℕ) (t : SubType) → slice_get types i ≡ Some t → t.supertype ≡ Some s
      → (s < i) × ((u : SubType) × (slice_get types s ≡ Some u) × IsAlike t u)
