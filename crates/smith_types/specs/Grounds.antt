-- The marks of a type space for ground types. A ground type is a struct type whose fields all have
-- defaults.
use Rattle.std.specs.Prelude.{◌≡◌, ◌↔◌, ℕ, zero, suc, ◌+◌, ◌<◌, ◌≤◌, ◌⊎◌, Bool, true, false, not, ◌&&◌, ◌||◌, IsTrue}
use Rattle.std.specs.Prelude.{List, [], ◌∷◌, length, slice_get, Option, Some, None, vec_capacity, if◌then◌else◌}
use Rattle.std.specs.List.{list_any}
use Rattle.smith_types.specs.Common.{CompositeInnerType, Concrete, shared, Struct, SubType}
use Rattle.smith_types.specs.Subtyping.{IsBelow}
use Rattle.smith_types.specs.declared.ground.Ground.{Ground}
use Rattle.smith_types.specs.declared.ground.GroundKinds.{GroundKinds}
use Rattle.smith_types.specs.declared.marked_types.MarkedTypes.{MarkedTypes}
use Rattle.smith_types.specs.Grounded.{are_defaultable, IsGroundedByStructs}

-- whether a composite type is ground
abbrev pub is_inner_ground : CompositeInnerType → Bool
is_inner_ground (Struct structure) = are_defaultable structure.fields
is_inner_ground _ = false

-- whether a type is ground
abbrev pub is_ground : SubType → Bool
is_ground t = is_inner_ground t.composite_type.inner

-- whether a type is ground and has this sharedness
abbrev pub is_ground_of : Bool → SubType → Bool
is_ground_of false t = is_ground t && not (shared t)
is_ground_of true t = is_ground t && shared t

-- the type at `i` is ground, and a subtype of the type at `j`
pub record IsGroundBelow (types : List SubType) (i j : ℕ) : Type 0 where
  pub ground : SubType
  pub at : slice_get types i ≡ Some ground
  pub is : is_ground ground ≡ true
  pub below : IsBelow types (Concrete i) (Concrete j)

-- a flag of the entry at `i`, or false if there is no entry
abbrev pub said_at : (Ground → Bool) → List Ground → ℕ → Bool
said_at flag [] i = false
said_at flag (ground ∷ grounds) zero = flag ground
said_at flag (ground ∷ grounds) (suc i) = said_at flag grounds i

abbrev pub own_at : List Ground → ℕ → Bool
own_at grounds i = said_at (λ (ground : Ground). ground.own) grounds i

abbrev pub below_at : List Ground → ℕ → Bool
below_at grounds i = said_at (λ (ground : Ground). ground.below) grounds i

-- each type has a mark, which has whether the type is ground, and whether a ground type is its
-- subtype
pub record AreGrounds (types : List SubType) (grounds : List Ground) : Type 0 where
  pub long : length grounds ≡ length types
  pub own : (i : ℕ) (t : SubType) → slice_get types i ≡ Some t → own_at grounds i ≡ is_ground t
  pub below : (j : ℕ) → IsTrue (below_at grounds j) ↔ ((i : ℕ) × IsGroundBelow types i j)

-- the supertypes of a marked type are marked
pub record AreClosed (types : List SubType) (grounds : List Ground) : Type 0 where
  pub up : (i j : ℕ) → IsBelow types (Concrete i) (Concrete j) → IsTrue (below_at grounds i) → IsTrue (below_at grounds j)

-- `from` is an index, and `j` is that index or the index of a supertype
abbrev pub IsFrom : List SubType → Option ℕ → ℕ → Type 0
IsFrom types from j = (s : ℕ) × (from ≡ Some s) × IsBelow types (Concrete s) (Concrete j)

-- `new` is `old` with the type `from`, if any, and its supertypes marked
pub record AreMarked (types : List SubType) (from : Option ℕ) (old new : List Ground) : Type 0 where
  pub long : length new ≡ length old
  pub own : (j : ℕ) → own_at new j ≡ own_at old j
  pub below : (j : ℕ) → IsTrue (below_at new j) ↔ (IsTrue (below_at old j) ⊎ IsFrom types from j)

-- whether a type has this sharedness
abbrev pub is_shared_as : Bool → SubType → Bool
is_shared_as true t = shared t
is_shared_as false t = not (shared t)

-- whether a type exists and has this sharedness
abbrev pub is_shared_in : Bool → Option SubType → Bool
is_shared_in is_shared None = false
is_shared_in is_shared (Some t) = is_shared_as is_shared t

-- whether the type at an index exists and has this sharedness
abbrev pub is_shared_at : List SubType → Bool → ℕ → Bool
is_shared_at types is_shared j = is_shared_in is_shared (slice_get types j)

-- whether the type at `j` is marked and has this sharedness
abbrev pub is_marked : List SubType → List Ground → Bool → ℕ → Bool
is_marked types grounds is_shared j = below_at grounds j && is_shared_at types is_shared j

-- the indices that pass a test, in order, among the `count` indices from `first`
abbrev pub indices_where : (ℕ → Bool) → ℕ → ℕ → List ℕ
indices_where test first zero = []
indices_where test first (suc count) =
    if test first then first ∷ indices_where test (first + 1) count else indices_where test (first + 1) count

-- the indices of the marked types among the first `count`
pub record AreMarkedTypes (types : List SubType) (grounds : List Ground) (count : ℕ) (marked : MarkedTypes) : Type 0 where
  pub plain : marked.plain.items ≡ indices_where (is_marked types grounds false) 0 count
  pub shared : marked.shared.items ≡ indices_where (is_marked types grounds true) 0 count

-- the lists have room for the indices of `count` types
pub record HasIndexRoom (count : ℕ) (marked : MarkedTypes) : Type 0 where
  pub plain : count ≤ vec_capacity marked.plain
  pub shared : count ≤ vec_capacity marked.shared

-- for types of this sharedness, a test decides whether structs ground them
abbrev pub DecidesGrounded : List SubType → Bool → Bool → (ℕ → Bool) → Type 0
DecidesGrounded types descriptors is_shared test =
    (j : ℕ) → j < length types
    → IsTrue (test j) ↔ (IsGroundedByStructs types descriptors (Concrete j) × IsTrue (is_shared_at types is_shared j))

-- the flag for this sharedness
abbrev pub kind_at : GroundKinds → Bool → Bool
kind_at kinds false = kinds.plain
kind_at kinds true = kinds.shared

-- the flags after one more type of this sharedness, which is ground if `ground` is true
abbrev pub ground_kinds_with : Bool → Bool → GroundKinds → GroundKinds
ground_kinds_with ground is_shared kinds =
    record { plain = kinds.plain || (ground && not is_shared); shared = kinds.shared || (ground && is_shared) }

-- for each sharedness, the flag is whether a ground type has it
pub record AreGroundKinds (types : List SubType) (kinds : GroundKinds) : Type 0 where
  pub each : (is_shared : Bool) → kind_at kinds is_shared ≡ list_any (is_ground_of is_shared) types

-- marking from the type `from` has reached `above`: of `from` and its supertypes, only `above`, if
-- any, and its supertypes may lack their mark
pub record IsMarking (types : List SubType) (from above : Option ℕ) (old grounds : List Ground) : Type 0 where
  pub long : length grounds ≡ length old
  pub own : (j : ℕ) → own_at grounds j ≡ own_at old j
  pub kept : (j : ℕ) → IsTrue (below_at old j) → IsTrue (below_at grounds j)
  pub only : (j : ℕ) → IsTrue (below_at grounds j) → IsTrue (below_at old j) ⊎ IsFrom types from j
  pub almost : (j : ℕ) → IsFrom types from j → IsTrue (below_at grounds j) ⊎ IsFrom types above j
  pub next : (s : ℕ) → above ≡ Some s → (s < length types) × (s < length old) × IsFrom types from s
  pub before : (s j : ℕ) → above ≡ Some s → j ≤ s → below_at grounds j ≡ below_at old j
