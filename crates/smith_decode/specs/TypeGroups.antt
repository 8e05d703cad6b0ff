-- Groups of types, and the supertypes of each type past its first, which are lists of their own in a
-- module (Binary Format, Types, Recursive Types).
use Rattle.std.specs.Prelude.{◌≡◌, ℕ, List, [], ◌∷◌, length, map}
use Rattle.smith_decode.specs.Common.{DeclaredType, SubType}
use Rattle.smith_binary_read.specs.DeclaredTypes.{with_further}

-- the types of a group
abbrev pub types_in : List DeclaredType → List SubType
types_in = map (λ (t : DeclaredType). t.sub_type)

-- the supertypes of each type of a group past its first
abbrev pub further_in : List DeclaredType → List (List ℕ)
further_in = map (λ (t : DeclaredType). t.further_supertypes)

-- the types of groups
abbrev pub groups_types : List (List DeclaredType) → List (List SubType)
groups_types = map types_in

-- the supertypes of each type of groups past its first
abbrev pub groups_further : List (List DeclaredType) → List (List (List ℕ))
groups_further = map further_in

-- the types of a group with these supertypes past their first; with none where a list is missing
abbrev pub declared_group : List SubType → List (List ℕ) → List DeclaredType
declared_group [] further = []
declared_group (t ∷ group) [] = with_further t [] ∷ declared_group group []
declared_group (t ∷ group) (one ∷ further) = with_further t one ∷ declared_group group further

-- the types of groups with these supertypes past their first; with none where a list is missing
abbrev pub declared_groups : List (List SubType) → List (List (List ℕ)) → List (List DeclaredType)
declared_groups [] further = []
declared_groups (group ∷ types) [] = declared_group group [] ∷ declared_groups types []
declared_groups (group ∷ types) (one ∷ further) = declared_group group one ∷ declared_groups types further

-- there is a list of further supertypes for each type
abbrev pub AreAligned : List (List SubType) → List (List (List ℕ)) → Type 0
AreAligned types further = map length further ≡ map length types
