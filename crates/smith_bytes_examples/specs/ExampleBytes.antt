-- Bytes and names used by the examples.
use Rattle.std.specs.Prelude.{◌≡◌, ℕ, List, length}
use Rattle.std.specs.List.{list_any}
use Rattle.std.specs.Str.{bytes_eq}
use Rattle.std.specs.HashSet.{HashSet, contains_text, hash_set_len}
use Rattle.std.specs.declared.string.String.{String}
use Rattle.std.specs.declared.alloc.Global.{Global}
use Rattle.smith_bytes.specs.Draws.{whole_at}
use Rattle.smith_bytes.specs.Spelling.{SpellsNumber}

-- a draw of one byte, whatever the items before it
abbrev pub any_byte : List ℕ → List ℕ → ℕ × List ℕ
any_byte made = whole_at 1

-- a number in 0..=255
abbrev pub SpellsByte : ℕ → List ℕ → Type 0
SpellsByte value = SpellsNumber value 0 255

-- the set has exactly these names
pub record HasNames {S : Type 0} (names : HashSet (String Global) S) (texts : List (List ℕ)) : Type 0 where
  pub count : hash_set_len names ≡ length texts
  pub has : (other : List ℕ) → contains_text names other ≡ list_any (λ text. bytes_eq text other) texts
