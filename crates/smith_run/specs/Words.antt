-- The words after the program's name.
use Rattle.std.specs.Prelude.{List, [], ◌∷◌, ℕ, Option, Some, None, Bool, true, false, codes, if◌then◌else◌}
use Rattle.std.specs.Str.{bytes_eq}

-- whether the words select a drawn configuration: no word selects the default, the word `arbitrary`
-- a drawn one, and other words are not accepted
abbrev pub drawn_by : List (List ℕ) → Option Bool
drawn_by [] = Some false
drawn_by (word ∷ []) = if bytes_eq word (codes "arbitrary") then Some true else None
drawn_by (word ∷ (other ∷ words)) = None
