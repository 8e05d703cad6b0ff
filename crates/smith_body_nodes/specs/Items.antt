-- Draws of items, and draws that depend on them.
use Rattle.std.specs.Prelude.{ℕ, ◌-◌, ◌==◌, Option, Some, None, option_map, List, length, slice_get, if◌then◌else◌}
use Rattle.smith_bytes.specs.Draws.{range_at}
use Rattle.smith_body_nodes.specs.Chosen.{giving}
use Rattle.smith_body_nodes.specs.Scopes.{indexed}

-- the index of one of `count` items, or none if there is no item
unfoldable pub index_at : ℕ → List ℕ → Option ℕ × List ℕ
index_at count bytes = let index = range_at 0 (indexed count - 1) bytes in (if count == 0 then None else Some index.0, index.1)

-- one of these items, with its index
unfoldable pub item_at : {A : Type 0} → List A → List ℕ → Option (ℕ × A) × List ℕ
item_at items bytes = giving (λ index. option_map (λ item. (index, item)) (slice_get items index)) (index_at (length items) bytes)

-- the next draw for a drawn item, if there is one
abbrev pub continued : {A B : Type 0} → (A → List ℕ → Option B × List ℕ) → Option A → List ℕ → Option B × List ℕ
continued next None bytes = (None, bytes)
continued next (Some item) bytes = next item bytes
