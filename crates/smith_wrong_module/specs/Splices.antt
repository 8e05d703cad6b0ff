-- Lists that differ at one place. Rules of this project.
use Rattle.std.specs.Prelude.{◌≡◌, ◌≤◌, ℕ, List, [], ◌∷◌, ◌++◌, length}

-- two lists differ only at `index`, where the relation holds between a piece of the old list and a
-- piece of the new list
pub record DifferAt {A : Type 0} (Differ : List A → List A → Type 0) (index : ℕ) (old new : List A) : Type 0 where
  pub before : List A
  pub piece : List A
  pub changed : List A
  pub after : List A
  pub old_parts : old ≡ before ++ (piece ++ after)
  pub new_parts : new ≡ before ++ (changed ++ after)
  pub place : length before ≡ index
  pub differ : Differ piece changed

-- at most one item replaces at most one item
abbrev pub AtMostOne : {A : Type 0} → List A → List A → Type 0
AtMostOne piece changed = (length piece ≤ 1) × (length changed ≤ 1)

-- one item replaces one item, and the relation holds between them
abbrev pub OneItem : {A : Type 0} → (A → A → Type 0) → List A → List A → Type 0
OneItem Differ (old ∷ []) (new ∷ []) = Differ old new
OneItem Differ _ _ = ⊥

-- two lists differ in one item, which is inserted, removed or replaced
abbrev pub AreSpliced : {A : Type 0} → List A → List A → Type 0
AreSpliced {A} old new = (index : ℕ) × DifferAt {A = A} (AtMostOne {A = A}) index old new
