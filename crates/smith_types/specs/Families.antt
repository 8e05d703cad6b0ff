-- The direct subtypes of a type, and how a type space represents them.
use Rattle.std.specs.Prelude.{◌≡◌, ℕ, suc, ◌<◌, ◌≤◌, Bool, false, ◌==◌, Option, Some, None, List, [], length, slice_get}
use Rattle.smith_types.specs.Common.{SubType}
use Rattle.smith_types.specs.declared.family.Family.{Family}
use Rattle.smith_types.specs.KindCounts.{indices_from}

-- whether the option holds this index (own rule)
abbrev pub is_index : ℕ → Option ℕ → Bool
is_index index None = false
is_index index (Some other) = other == index

-- whether a type declares the type at `index` as its supertype (Structure, Recursive Types)
abbrev pub is_directly_below : ℕ → SubType → Bool
is_directly_below index t = is_index index t.supertype

-- the indices, in order, of the types that declare the type at `index` as their supertype
-- (Structure, Recursive Types)
abbrev pub direct_subtypes : List SubType → ℕ → List ℕ
direct_subtypes types index = indices_from (is_directly_below index) 0 types

-- each family has the number of a type's direct subtypes, the last of them and, for a direct
-- subtype, the one before it; a type without a family has no direct subtypes (own rule)
pub record AreFamilies (types : List SubType) (families : List Family) : Type 0 where
  pub count : (s : ℕ) (family : Family) → slice_get families s ≡ Some family → family.count ≡ length (direct_subtypes types s)
  pub last : (s k : ℕ) (family : Family) → slice_get families s ≡ Some family → suc k ≡ length (direct_subtypes types s)
      → slice_get (direct_subtypes types s) k ≡ Some family.last
  pub previous : (s k i : ℕ) (family : Family) → slice_get (direct_subtypes types s) (suc k) ≡ Some i → slice_get families i ≡ Some family
      → slice_get (direct_subtypes types s) k ≡ Some family.previous
  pub within : (s k i : ℕ) → slice_get (direct_subtypes types s) k ≡ Some i → i < length families
  pub others : (s : ℕ) → length families ≤ s → direct_subtypes types s ≡ []
