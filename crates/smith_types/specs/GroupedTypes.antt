-- The type space under construction: the types in the order of their addition, and their groups so
-- far.
use Rattle.std.specs.Prelude.{◌≡◌, ℕ, suc, ◌+◌, ◌^◌, ◌<◌, ◌≤◌, not, ◌&&◌, nat_lt, List, [], ◌∷◌, Some, None, length, slice_get, slice_index}
use Rattle.std.specs.Prelude.{if◌then◌else◌}
use Rattle.smith_types.specs.Common.{Range, SubType}
use Rattle.smith_types.specs.Types.{IsAlike, IsOrderly, AreConsecutive, next_start}

-- the types of a type space, and the ranges of indices of its groups (Structure, Recursive Types)
pub record GroupedTypes : Type 0 where
  pub types : List SubType
  pub groups : List (Range ℕ)

-- the invariant of a type space: supertypes precede their subtypes, groups are consecutive, and
-- there are fewer than 2^32 types. Types after the last group belong to no group yet (own rule).
pub record IsSound (space : GroupedTypes) : Type 0 where
  pub orderly : IsOrderly space.types
  pub consecutive : AreConsecutive 0 space.groups
  pub within : next_start space.groups ≤ length space.types
  pub few : length space.types < 2 ^ 32

-- a type may be appended: its declared supertype, if any, exists and has the same kind and
-- sharedness (Validation, Recursive Types; sharedness: own rule), and an index is free
pub record MayFollow (types : List SubType) (t : SubType) : Type 0 where
  pub below : (s : ℕ) → t.supertype ≡ Some s → (u : SubType) × (slice_get types s ≡ Some u) × IsAlike t u
  pub room : length types + 1 < 2 ^ 32

-- the number of types on the path along declared supertypes, including the type itself (own rule)
pub data HasDepth (types : List SubType) : ℕ → ℕ → Type 0 where
  root : {i : ℕ} {t : SubType} → slice_get types i ≡ Some t → t.supertype ≡ None → HasDepth types i 1
  deeper : {i s d : ℕ} {t : SubType} → slice_get types i ≡ Some t → t.supertype ≡ Some s → HasDepth types s d → HasDepth types i (suc d)

-- the depth of each type, by its index (own rule)
pub record AreDepths (types : List SubType) (depths : List ℕ) : Type 0 where
  pub long : length depths ≡ length types
  pub each : (i : ℕ) → i < length types → HasDepth types i (slice_index depths i)

-- the indices, from `first` on, of the types that may have subtypes: those that are not final and
-- have a depth below 60 (own rule)
abbrev pub extensible_from : ℕ → List SubType → List ℕ → List ℕ
extensible_from first [] depths = []
extensible_from first (t ∷ types) [] = []
extensible_from first (t ∷ types) (depth ∷ depths) =
    if not t.is_final && nat_lt depth 60 then first ∷ extensible_from (first + 1) types depths
    else extensible_from (first + 1) types depths

-- the indices of the types that may have subtypes, in order (own rule)
pub record AreExtensible (types : List SubType) (indices : List ℕ) : Type 0 where
  pub depths : List ℕ
  pub known : AreDepths types depths
  pub exact : indices ≡ extensible_from 0 types depths
