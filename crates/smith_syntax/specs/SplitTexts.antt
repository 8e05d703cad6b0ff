-- Texts in parts.
use Rattle.std.specs.Prelude.{ℕ, List, ◌==◌}
use Rattle.std.specs.List.{slice_split}

-- the parts of a text between its commas
abbrev pub split_at_commas : List ℕ → List (List ℕ)
split_at_commas text = slice_split (λ b. b == 44) text
