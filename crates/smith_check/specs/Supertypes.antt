-- Types with one supertype at most: the section Validation, Types, Recursive Types, of the
-- WebAssembly Core Specification 3.0. A type is given by its supertypes after the first.
use Rattle.std.specs.Prelude.{◌≡◌, ℕ, ◌+◌, ◌==◌, Bool, true, List, length, take}
use Rattle.std.specs.List.{list_all}

-- whether no type of a group has several supertypes
abbrev pub is_single : List (List ℕ) → Bool
is_single group = list_all (λ (further : List ℕ). length further == 0) group

-- no type of these groups has several supertypes (Validation, Recursive Types)
abbrev pub HaveOneSupertype : List (List (List ℕ)) → Type 0
HaveOneSupertype groups = list_all is_single groups ≡ true

-- `group` is the first group with a type of several supertypes
pub record IsFirstSeveral (groups : List (List (List ℕ))) (group : ℕ) : Type 0 where
  pub before : HaveOneSupertype (take group groups)
  pub several : HaveOneSupertype (take (group + 1) groups) → ⊥
