-- The marked direct subtypes of a type, and how a type space represents them.
use Rattle.std.specs.Prelude.{◌≡◌, ◌↔◌, ℕ, ◌<◌, ◌≤◌, Bool, true, false, ◌&&◌, IsTrue, List, [], Option, Some, None, length, slice_get, Vec}
use Rattle.std.specs.Prelude.{vec_len, vec_capacity}
use Rattle.std.specs.declared.alloc.Global.{Global}
use Rattle.smith_types.specs.Common.{Concrete, SubType}
use Rattle.smith_types.specs.declared.ground.Ground.{Ground}
use Rattle.smith_types.specs.declared.marked_families.MarkedFamilies.{MarkedFamilies}
use Rattle.smith_types.specs.Families.{is_directly_below}
use Rattle.smith_types.specs.Grounded.{IsGroundedByStructs}
use Rattle.smith_types.specs.Grounds.{below_at, indices_where}

-- whether a type exists and declares the type at this index as its supertype
abbrev pub is_directly_below_in : ℕ → Option SubType → Bool
is_directly_below_in index None = false
is_directly_below_in index (Some t) = is_directly_below index t

-- whether the type at index j exists and declares the type at this index as its supertype
abbrev pub is_directly_below_at : List SubType → ℕ → ℕ → Bool
is_directly_below_at types index j = is_directly_below_in index (slice_get types j)

-- whether the type at index j is marked, and a direct subtype of the type at this index
abbrev pub is_marked_below : List SubType → List Ground → ℕ → ℕ → Bool
is_marked_below types grounds index j = below_at grounds j && is_directly_below_at types index j

-- each list has the indices of a type's marked direct subtypes, in order; a type without a list has
-- no marked direct subtypes
pub record AreFamilyLists (types : List SubType) (grounds : List Ground) (lists : List (Vec ℕ Global)) : Type 0 where
  pub each : (s : ℕ) (list : Vec ℕ Global) → slice_get lists s ≡ Some list → list.items ≡ indices_where (is_marked_below types grounds s) 0
      (length types)
  pub others : (s : ℕ) → length lists ≤ s → indices_where (is_marked_below types grounds s) 0 (length types) ≡ []

-- the lists are correct if they are known
abbrev pub AreMarkedFamilies : List SubType → List Ground → MarkedFamilies → Type 0
AreMarkedFamilies types grounds families = families.known ≡ true → AreFamilyLists types grounds families.lists.items

-- the list of `supertype`, if any, has room for one more entry
abbrev pub HasFamilyRoom : Option ℕ → List (Vec ℕ Global) → Type 0
HasFamilyRoom supertype lists = (s : ℕ) → supertype ≡ Some s → (list : Vec ℕ Global) × (slice_get lists s ≡ Some list)
    × (vec_len list < vec_capacity list)

-- a test decides which direct subtypes of a type are grounded by structs
abbrev pub DecidesGroundedBelow : List SubType → Bool → ℕ → (ℕ → Bool) → Type 0
DecidesGroundedBelow types descriptors index test =
    (j : ℕ) → j < length types
    → IsTrue (test j) ↔ (IsGroundedByStructs types descriptors (Concrete j) × IsTrue (is_directly_below_at types index j))
