-- Canonical indices of the examples.
use Rattle.std.proofs.Common.{◌≡◌, ℕ, zero, suc, ◌<◌, ◌≤◌, ◌^◌, List, [], ◌∷◌, Option, Some, None, refl, ap, subst, arith}
use Rattle.std.specs.Prelude.{slice_get, slice_index}
use Rattle.smith_check_types.specs.Canonical.{DefinedType, defined_types, IsFirstEqual, AreCanonical}
use Rattle.smith_check_types.specs.Codes.{group_codes}
use Rattle.smith_check_types.specs.ExampleGroups.{two_functions, two_pairs, own_and_earlier}

same_Some : (a b : ℕ) → Some a ≡ Some b → a ≡ b
same_Some a b h = cc h

-- the place of a type, and a number of its group
abbrev place_of : Option DefinedType → ℕ
place_of None = 0
place_of (Some d) = d.place

abbrev code_of : ℕ → Option DefinedType → ℕ
code_of k None = 0
code_of k (Some d) = slice_index (group_codes d.group) k

-- the first of all types is its own canonical index, and that of each type that is equal to it
first_equal : (types : List DefinedType) (index first : ℕ) → Some 0 ≡ Some first → slice_get types 0 ≡ slice_get types index
    → IsFirstEqual types index first
first_equal types index first at same = subst (IsFirstEqual types index) (same_Some 0 first at)
    (record { equal = same; least = λ other h. omega arith })

least_one : (types : List DefinedType) (index : ℕ) → (slice_get types 0 ≡ slice_get types index → ⊥) → (other : ℕ)
    → slice_get types other ≡ slice_get types index → 1 ≤ other
least_one types index never zero h = absurd (never h)
least_one types index never (suc other) h = omega arith

-- the second type is its own canonical index if it is not equal to the first
second_equal : (types : List DefinedType) (index first : ℕ) → Some 1 ≡ Some first → slice_get types 1 ≡ slice_get types index
    → (slice_get types 0 ≡ slice_get types index → ⊥) → IsFirstEqual types index first
second_equal types index first at same never =
    subst (IsFirstEqual types index) (same_Some 1 first at) (record { equal = same; least = least_one types index never })

functions_each : (index first : ℕ) → slice_get (0 ∷ 0 ∷ []) index ≡ Some first → IsFirstEqual (defined_types (0 ∷ 0 ∷ []) two_functions)
    index first
functions_each zero first at = first_equal (defined_types (0 ∷ 0 ∷ []) two_functions) 0 first at refl
functions_each (suc zero) first at = first_equal (defined_types (0 ∷ 0 ∷ []) two_functions) 1 first at refl
functions_each (suc (suc n)) first at = absurd (cc at)

pub functions_canonical : AreCanonical two_functions (0 ∷ 0 ∷ [])
functions_canonical = record { long = refl; each = functions_each }

other_place : (i j : ℕ) → let types = defined_types (0 ∷ 1 ∷ 0 ∷ 1 ∷ []) two_pairs in (place_of (slice_get types i) ≡ 0)
    → (place_of (slice_get types j) ≡ 1) → slice_get types i ≡ slice_get types j → ⊥
other_place i j first second same = let e = ap place_of same in omega (arith, first, second, e)

pairs_each : (index first : ℕ) → slice_get (0 ∷ 1 ∷ 0 ∷ 1 ∷ []) index ≡ Some first
    → IsFirstEqual (defined_types (0 ∷ 1 ∷ 0 ∷ 1 ∷ []) two_pairs) index first
pairs_each zero first at = first_equal (defined_types (0 ∷ 1 ∷ 0 ∷ 1 ∷ []) two_pairs) 0 first at refl
pairs_each (suc zero) first at = second_equal (defined_types (0 ∷ 1 ∷ 0 ∷ 1 ∷ []) two_pairs) 1 first at refl (other_place 0 1 refl refl)
pairs_each (suc (suc zero)) first at = first_equal (defined_types (0 ∷ 1 ∷ 0 ∷ 1 ∷ []) two_pairs) 2 first at refl
pairs_each (suc (suc (suc zero))) first at = second_equal (defined_types (0 ∷ 1 ∷ 0 ∷ 1 ∷ []) two_pairs) 3 first at refl
    (other_place 0 3 refl refl)
pairs_each (suc (suc (suc (suc n)))) first at = absurd (cc at)

pub pairs_canonical : AreCanonical two_pairs (0 ∷ 1 ∷ 0 ∷ 1 ∷ [])
pairs_canonical = record { long = refl; each = pairs_each }

pub own_apart : (indices : List ℕ) → code_of 9 (slice_get (defined_types indices own_and_earlier) 0) ≡ 2 ^ 32
    → code_of 9 (slice_get (defined_types indices own_and_earlier) 1) ≡ 0
    → slice_get (defined_types indices own_and_earlier) 0 ≡ slice_get (defined_types indices own_and_earlier) 1 → ⊥
own_apart indices first second same = let e = ap (code_of 9) same in omega (arith, first, second, e)

own_each : (index first : ℕ) → slice_get (0 ∷ 1 ∷ []) index ≡ Some first → IsFirstEqual (defined_types (0 ∷ 1 ∷ []) own_and_earlier) index
    first
own_each zero first at = first_equal (defined_types (0 ∷ 1 ∷ []) own_and_earlier) 0 first at refl
own_each (suc zero) first at = second_equal (defined_types (0 ∷ 1 ∷ []) own_and_earlier) 1 first at refl (own_apart (0 ∷ 1 ∷ []) refl refl)
own_each (suc (suc n)) first at = absurd (cc at)

pub own_canonical : AreCanonical own_and_earlier (0 ∷ 1 ∷ [])
own_canonical = record { long = refl; each = own_each }
