-- The item chosen among the enabled items of a table.
use Rattle.smith_draw_types.proofs.Common.{[], add-one, arith, Bool, drop, get_or, IsTrue, length, length-map, List, range_at}
use Rattle.smith_draw_types.proofs.Common.{recursion_from_All, refl, suc, sym, true, zero, ℕ, ◌+◌, ◌-◌, ◌<◌, ◌∙◌, ◌∷◌, ◌≡◌}
use Rattle.std.specs.List.{filter, All, AllByRecursion as ByRecursion, count_by}
use Rattle.std.proofs.lemmas.List.Elements.{All-filter, All-map, filter_passes}
use Rattle.std.proofs.Math.Seq.{drop-cons}
use Rattle.std.proofs.lemmas.List.Sums.{length-filter}
use Rattle.smith_draw_types.specs.Choices.{enabled, chosen_at}

-- a property of each enabled item
pub enabled_all : {A : Type 0} (P : A → Type 0) (table : List (A × Bool)) → All (λ (row : A × Bool). IsTrue row.1 → P row.0) table
    → All P (enabled table)
enabled_all {A = A} P table each =
    let kept : List (A × Bool) = filter (λ row. row.1) table in
    let on = filter_passes (λ (row : A × Bool). row.1) table in
    let fits = All-filter (λ (row : A × Bool). row.1) (λ (row : A × Bool). IsTrue row.1 → P row.0) table each in
    All-map P (λ (row : A × Bool). row.0) kept (λ k d lt. fits k d lt (on k d lt))

item_or : {A : Type 0} (P : A → Type 0) (items : List A) (place : ℕ) (other : A) → ByRecursion P items → P other
    → P (get_or items place other)
item_or P [] place other each h = h
item_or P (x ∷ items) zero other each h = each.0
item_or P (x ∷ items) (suc place) other each h = item_or P items place other each.1 h

-- a property of each item and of the other one holds for the chosen item
pub chosen_is : {A : Type 0} (P : A → Type 0) (other : A) (items : List A) (bytes : List ℕ) → All P items → P other
    → P (chosen_at other items bytes).0
unfolding chosen_at
chosen_is P other items bytes each h = item_or P items (range_at 0 (length items - 1) bytes).0 other (recursion_from_All P items each) h

pub length_enabled : {A : Type 0} (table : List (A × Bool)) → length (enabled table) ≡ count_by (λ row. row.1) table
length_enabled table = length-map (filter (λ row. row.1) table) (λ row. row.0) ∙ length-filter (λ row. row.1) table

enabled_next : {A : Type 0} (row : A × Bool) (rest : List (A × Bool)) (place : ℕ) (other : A) → row.1 ≡ true → (place ≡ 0 → ⊥)
    → get_or (enabled (row ∷ rest)) place other ≡ get_or (enabled rest) (place - 1) other
enabled_next row rest zero other on some = absurd (some refl)
enabled_next row rest (suc place) other on some = let back : suc place - 1 ≡ place = omega arith in rw (on, back) refl

-- after an enabled item each other one is one place earlier
pub enabled_turn : {A : Type 0} (table : List (A × Bool)) (i place : ℕ) (d : A × Bool) (other : A) → i < length table
    → (get_or table i d).1 ≡ true → (place ≡ 0 → ⊥) → get_or (enabled (drop (i + 1) table)) (place - 1) other
    ≡ get_or (enabled (drop i table)) place other
enabled_turn table i place d other inside on some =
    rw (drop-cons table i d inside, add-one) (sym (enabled_next (get_or table i d) (drop (suc i) table) place other on some))
