-- The entry of each type in a type space: its depth, the counts up to it, and links to two of its
-- supertypes, which lead to a supertype of any depth.
use Rattle.std.specs.Prelude.{◌≡◌, ℕ, suc, ◌-◌, ◌<◌, ◌≤◌, List, [], ◌∷◌, Some, length, map, take, slice_get, Vec, vec_len, vec_capacity}
use Rattle.smith_types.specs.Common.{Concrete, SubType}
use Rattle.std.specs.declared.alloc.Global.{Global}
use Rattle.smith_types.specs.declared.place.Place.{Place}
use Rattle.smith_types.specs.GroupedTypes.{HasDepth}
use Rattle.smith_types.specs.declared.kind_counts.KindCounts.{KindCounts}
use Rattle.smith_types.specs.KindCounts.{AreCounts}
use Rattle.smith_types.specs.Subtyping.{IsBelow}

-- `ancestor` is the type at `i` or one of its supertypes, and has this depth
pub record IsAncestor (types : List SubType) (i depth ancestor : ℕ) : Type 0 where
  pub depth_is : HasDepth types ancestor depth
  pub above : IsBelow types (Concrete i) (Concrete ancestor)

-- `j` is the type at `i` or one of its supertypes, and does not follow it
pub record IsLink (types : List SubType) (i j : ℕ) : Type 0 where
  pub above : IsBelow types (Concrete i) (Concrete j)
  pub upto : j ≤ i

-- the entry of the type at `i`: its depth, the counts of the types up to it, its declared
-- supertype, if any, and its jump, which leads to a supertype, or to the type itself if it has none
pub record IsPlace (types : List SubType) (i : ℕ) (place : Place) : Type 0 where
  pub depth : HasDepth types i place.depth
  pub counts : AreCounts (take (suc i) types) place.counts
  pub declared : 1 < place.depth → IsAncestor types i (place.depth - 1) place.supertype
  pub before : 1 < place.depth → place.supertype < i
  pub jump : IsLink types i place.jump
  pub jumps : 1 < place.depth → place.jump < i

-- each type has its entry
pub record ArePlaces (types : List SubType) (places : List Place) : Type 0 where
  pub long : length places ≡ length types
  pub each : (i : ℕ) (place : Place) → slice_get places i ≡ Some place → IsPlace types i place

-- the type at `j` is a proper supertype of the type at `i`, and its depth is at least `depth`
pub record IsClimb (types : List SubType) (i depth j : ℕ) : Type 0 where
  pub above : IsBelow types (Concrete i) (Concrete j)
  pub before : j < i
  pub deep : (own : ℕ) → HasDepth types j own → depth ≤ own

-- the counts of the last of these places, or `counts` if there is none
abbrev pub last_counts_from : KindCounts → List Place → KindCounts
last_counts_from counts [] = counts
last_counts_from counts (place ∷ places) = last_counts_from place.counts places

-- the counts of the last of these places, which are those of all types
abbrev pub last_counts : List Place → KindCounts
last_counts places = last_counts_from (record {
  arrays = 0;
  funcs = 0;
  structs = 0;
  shared_arrays = 0;
  shared_funcs = 0;
  shared_structs = 0;
  without_results = 0;
}) places

-- the depths of these places
abbrev pub depths_in : List Place → List ℕ
depths_in places = map (λ (p : Place). p.depth) places

-- a list with an entry for each type: as long as the list of types, with room for as many
pub record AreBeside (types : Vec SubType Global) (places : Vec Place Global) : Type 0 where
  pub long : vec_len places ≡ vec_len types
  pub room : vec_capacity types ≤ vec_capacity places
