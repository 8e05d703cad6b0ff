-- Choices among the items that a configuration enables.
use Rattle.std.specs.Prelude.{ℕ, ◌-◌, Bool, List, map, length, slice_index_or}
use Rattle.std.specs.List.{filter}
use Rattle.smith_draw_types.specs.Common.{range_at}

-- the enabled items of a table, in order
abbrev pub enabled : {A : Type 0} → List (A × Bool) → List A
enabled table = map (λ row. row.0) (filter (λ row. row.1) table)

-- the item at a drawn position of a list, or `other` if the list is empty
unfoldable pub chosen_at : {A : Type 0} → A → List A → List ℕ → A × List ℕ
chosen_at other items bytes =
    let place = range_at 0 (length items - 1) bytes in
    (slice_index_or items place.0 other, place.1)
