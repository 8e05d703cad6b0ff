-- Lists of types, and their groups. Sections are those of the WebAssembly Core Specification 3.0.
use Rattle.std.specs.Prelude.{◌≡◌, ℕ, ◌<◌, ◌≤◌, List, [], ◌∷◌, Some, length, slice_get}
use Rattle.smith_types.specs.Common.{Range, shared, SubType}
use Rattle.smith_syntax.specs.Kinds.{kind}

-- two types have the same kind and sharedness (sharedness: own rule)
pub record IsAlike (t u : SubType) : Type 0 where
  pub kind : kind t ≡ kind u
  pub shared : shared t ≡ shared u

-- each declared supertype precedes its subtype, and has the same kind and sharedness (Validation,
-- Recursive Types; sharedness: own rule)
pub record IsOrderly (types : List SubType) : Type 0 where
  pub under : (i s : ℕ) (t : SubType) → slice_get types i ≡ Some t → t.supertype ≡ Some s
      → (s < i) × ((u : SubType) → slice_get types s ≡ Some u → IsAlike t u)

-- the end of the last of these groups, or `start` if there is none (Structure, Recursive Types)
abbrev pub end_from : ℕ → List (Range ℕ) → ℕ
end_from start [] = start
end_from start (group ∷ groups) = end_from group.end groups

-- the start of the group after these (Structure, Recursive Types)
abbrev pub next_start : List (Range ℕ) → ℕ
next_start groups = end_from 0 groups

-- the first group starts at `start`, and each other group starts where the group before it ends;
-- groups may be empty (Structure, Recursive Types)
abbrev pub AreConsecutive : ℕ → List (Range ℕ) → Type 0
AreConsecutive start [] = Unit {0}
AreConsecutive start (group ∷ groups) = (group.start ≡ start) × (start ≤ group.end) × AreConsecutive group.end groups

-- the group of the types after these groups (Structure, Recursive Types)
abbrev pub next_group : List SubType → List (Range ℕ) → Range ℕ
next_group types groups = record { start = next_start groups; end = length types }

-- the groups cover the types as consecutive ranges (Structure, Types, Recursive Types)
pub record AreCovered (types : List SubType) (groups : List (Range ℕ)) : Type 0 where
  pub consecutive : AreConsecutive 0 groups
  pub whole : next_start groups ≡ length types
