-- Kebab names: lowercase letters and digits, in parts joined by single dashes.
use Rattle.std.specs.Prelude.{◌≡◌, ◌≤◌, ◌⊎◌, ℕ, zero, suc, ◌+◌, ◌-◌, ◌==◌, ◌||◌, Bool, List, [], ◌∷◌, ◌++◌, length, min, nat_lt}
use Rattle.std.specs.Prelude.{slice_index, EachIndex, if◌then◌else◌}
use Rattle.smith_bytes.specs.Draws.{range_at, len_at}

abbrev pub dash : ℕ
dash = 45

-- the letter with this index in the alphabet, a at 0
abbrev pub letter : ℕ → ℕ
letter n = 97 + n

-- the digit of this value
abbrev pub digit : ℕ → ℕ
digit n = 48 + n

-- whether a name must go on: it is empty or ends in a dash
abbrev pub is_open : List ℕ → Bool
is_open name = (length name == 0) || (slice_index name (length name - 1) == dash)

-- the character that a number in 0..=36 encodes after the name
abbrev pub character : List ℕ → ℕ → ℕ
character name n =
    if nat_lt n 26 then letter n
    else if nat_lt n 36 then (if length name == 0 then letter (n - 26) else digit (n - 26))
    else (if is_open name then letter 0 else dash)

-- a draw of the next character of a name
unfoldable pub character_at : List ℕ → List ℕ → ℕ × List ℕ
character_at name bytes = let n = range_at 0 36 bytes in (character name n.0, n.1)

-- a name after a number of drawn characters
unfoldable pub characters_at : ℕ → List ℕ → List ℕ → List ℕ × List ℕ
characters_at zero name bytes = (name, bytes)
characters_at (suc n) name bytes = let c = character_at name bytes in characters_at n (name ++ c.0 ∷ []) c.1

-- the name, with an `a` appended if it must go on
abbrev pub closed : List ℕ → List ℕ
closed name = if is_open name then name ++ letter 0 ∷ [] else name

-- a kebab name: a drawn number of characters, at most `max_size`, then closed
unfoldable pub kebab_at : ℕ → List ℕ → List ℕ × List ℕ
kebab_at max_size bytes =
    let size = len_at bytes in
    let name = characters_at (min size.0 max_size) [] size.1 in
    (closed name.0, name.1)

abbrev pub IsLetter : ℕ → Type 0
IsLetter c = (letter 0 ≤ c) × (c ≤ letter 25)

abbrev pub IsDigit : ℕ → Type 0
IsDigit c = (digit 0 ≤ c) × (c ≤ digit 9)

abbrev pub IsLetterOrDigit : ℕ → Type 0
IsLetterOrDigit c = IsLetter c ⊎ IsDigit c

-- parts of letters and digits, joined by single dashes, starting with a letter
pub record IsKebab (name : List ℕ) : Type 0 where
  pub starts : IsLetter (slice_index name 0)
  pub characters : EachIndex name (λ i. IsLetterOrDigit (slice_index name i) ⊎ (slice_index name i ≡ dash))
  pub dashes : (i : ℕ) → slice_index name i ≡ dash → IsLetterOrDigit (slice_index name (i + 1))
