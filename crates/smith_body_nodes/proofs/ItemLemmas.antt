-- Draws of items, and the draws that follow.
use Rattle.smith_body_nodes.proofs.Common.{ap, arith, length, List, None, Option, option_map, range_at, refl, slice_get, Some, suc, zero, ℕ}
use Rattle.smith_body_nodes.proofs.Common.{◌-◌, ◌<◌, ◌∙◌, ◌≡◌}
use Rattle.smith_body_nodes.specs.Chosen.{giving}
use Rattle.smith_body_nodes.specs.Items.{index_at, item_at}
use Rattle.smith_body_nodes.specs.Scopes.{indexed}
use Rattle.smith_body_nodes.proofs.ChosenLemmas.{no_range, not_zero}

-- the result for a drawn item
pub given_none : {A B : Type 0} (give : A → Option B) (drawn : Option A × List ℕ) (left : List ℕ) → drawn ≡ (None, left)
    → giving give drawn ≡ (None, left)
given_none {A = A} give drawn left is = ap (λ (d : Option A × List ℕ). giving give d) is

pub given_some : {A B : Type 0} (give : A → Option B) (drawn : Option A × List ℕ) (left : List ℕ) (item : A) (made : Option B)
    → drawn ≡ (Some item, left) → give item ≡ made → giving give drawn ≡ (made, left)
given_some {A = A} {B = B} give drawn left item made is makes = ap (λ (d : Option A × List ℕ). giving give d) is
    ∙ ap (λ (o : Option B). (o, left)) makes

-- an index
pub index_none : (count : ℕ) (bytes : List ℕ) → indexed count ≡ 0 → index_at count bytes ≡ (None, bytes)
unfolding index_at
index_none zero bytes none = ap (λ (r : ℕ × List ℕ). (None, r.1)) (no_range bytes)
index_none (suc count) bytes none = absurd (omega arith)

pub index_there : (count : ℕ) (bytes left : List ℕ) (index : ℕ) → range_at 0 (indexed count - 1) bytes ≡ (index, left) → 0 < count
    → index_at count bytes ≡ (Some index, left)
unfolding index_at
index_there count bytes left index drawn some = rw (drawn, not_zero count some) refl

-- an item with its index
pub item_none : {A : Type 0} (items : List A) (bytes left : List ℕ) → index_at (length items) bytes ≡ (None, left)
    → item_at items bytes ≡ (None, left)
unfolding item_at
item_none {A = A} items bytes left drawn = given_none (λ (index : ℕ). option_map (λ (item : A). (index, item)) (slice_get items index))
    (index_at (length items) bytes) left drawn

pub item_there : {A : Type 0} (items : List A) (bytes left : List ℕ) (index : ℕ) (item : A) → index_at (length items) bytes
    ≡ (Some index, left) → slice_get items index ≡ Some item → item_at items bytes ≡ (Some (index, item), left)
unfolding item_at
item_there {A = A} items bytes left index item drawn there =
    given_some (λ (index : ℕ). option_map (λ (item : A). (index, item)) (slice_get items index)) (index_at (length items) bytes) left index
    (Some (index, item)) drawn
    (ap (λ (o : Option A). option_map (λ (item : A). (index, item)) o) there)
