-- Destinations of text: the number of its bytes, and the list of them.
use Rattle.std.specs.Prelude.{◌≡◌, ℕ, ◌≤◌, List, ◌++◌}

-- the number is at least `count`
abbrev pub HoldsAtLeast : ℕ → ℕ → Type 0
HoldsAtLeast size count = count ≤ size

-- the text is appended to the list
abbrev pub Appends : List ℕ → List ℕ → List ℕ → Type 0
Appends old text new = new ≡ old ++ text
