-- Constants, by the family that is drawn.
use Rattle.smith_body_leaves.proofs.Common.{List, refl, ℕ, ◌∙◌, ◌≡◌}
use Rattle.smith_draw_types.specs.Choices.{chosen_at}
use Rattle.smith_body_nodes.proofs.ChosenLemmas.{chosen_by}
use Rattle.smith_body_leaves.specs.Constants.{both_listed_at, listed_at, with_value}

-- a value, by its drawn family
pub by_family : {F A : Type 0} (by : F → List ℕ → A × List ℕ) (first : F) (families rows : List F) (bytes left rest : List ℕ)
    (drawn family : F) (value : A) → rows ≡ families → chosen_at first rows bytes ≡ (drawn, left) → drawn ≡ family → by family left ≡
    (value, rest)
    → by (chosen_at first families bytes).0 (chosen_at first families bytes).1 ≡ (value, rest)
by_family by first families rows bytes left rest drawn family value are is same given = chosen_by by first families rows bytes left
    drawn family are is same ∙ given

-- a drawn item of a table
pub listed : (table rows bytes left : List ℕ) (item : ℕ) → rows ≡ table → ((other : ℕ) → chosen_at other rows bytes ≡ (item, left))
    → listed_at table bytes ≡ (item, left)
listed table rows bytes left item are drawn = rw are at (drawn 0)

-- a drawn value that is changed
pub changed : {A B : Type 0} (change : A → B) (drawn : A × List ℕ) (value : A) (result : B) (left : List ℕ) → drawn ≡ (value, left)
    → result ≡ change value → with_value change drawn ≡ (result, left)
changed change drawn value result left is same = rw (is, same) refl

-- two drawn items of a table
pub both_listed : (combine : ℕ → ℕ → ℕ) (table bytes middle left : List ℕ) (low high result : ℕ) → listed_at table bytes ≡
    (low, middle) → listed_at table middle ≡ (high, left) → result ≡ combine low high → both_listed_at combine table bytes ≡
    (result, left)
both_listed combine table bytes middle left low high result first last same = rw (first, last, same) refl
