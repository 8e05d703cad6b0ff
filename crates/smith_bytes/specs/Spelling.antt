-- Spellings: bytes from which a value is drawn. A rule of this project. A spelling describes bytes
-- without mentioning draws; a law states that the value is drawn from them.
use Rattle.std.specs.Prelude.{◌≡◌, ℕ, zero, suc, ◌+◌, ◌-◌, ◌%◌, ◌<◌, nat_lt, Bool, true, false, List, [], ◌∷◌, ◌++◌, length, if◌then◌else◌}
use Rattle.smith_bytes.specs.Draws.{big_endian, digit_count}

-- one byte whose lowest bit is this bool
pub record SpellsBool (value : Bool) (piece : List ℕ) : Type 0 where
  pub byte : ℕ
  pub whole : piece ≡ byte ∷ []
  pub lowest : byte % 2 ≡ (if value then 1 else 0)

-- a number in lo..=hi, in as many base-256 digits as hi - lo has, most significant first; the value
-- of the digits, modulo the size of the range, is added to lo
pub record SpellsNumber (value lo hi : ℕ) (piece : List ℕ) : Type 0 where
  pub digits : length piece ≡ digit_count (hi - lo)
  pub read : value ≡ lo + big_endian piece % (hi - lo + 1)

-- a choice other than the first among `chances`
pub record SpellsRefusal (chances : ℕ) (piece : List ℕ) : Type 0 where
  pub drawn : ℕ
  pub later : 1 < drawn
  pub number : SpellsNumber drawn 1 chances piece

-- no bytes
abbrev pub SpellsNothing : List ℕ → Type 0
SpellsNothing piece = piece ≡ []

-- one arbitrary byte
pub record SpellsAnyByte (piece : List ℕ) : Type 0 where
  pub byte : ℕ
  pub whole : piece ≡ byte ∷ []

-- the piece if the condition holds, or else no bytes
abbrev pub Where : Bool → (List ℕ → Type 0) → List ℕ → Type 0
Where true Piece piece = Piece piece
Where false Piece piece = piece ≡ []

-- an empty list of at most `most` items: one false bool if `most` is above 0
abbrev pub SpellsNone : ℕ → List ℕ → Type 0
SpellsNone most = Where (nat_lt 0 most) (SpellsBool false)

-- an empty list, with a piece that spells it
pub record SpellsEmpty {A : Type 0} (IsEmptySpelled : List ℕ → Type 0) (items : List A) (piece : List ℕ) : Type 0 where
  pub none : items ≡ []
  pub spelled : IsEmptySpelled piece

-- one piece followed by another
pub record Joined (First Second : List ℕ → Type 0) (piece : List ℕ) : Type 0 where
  pub first : List ℕ
  pub second : List ℕ
  pub is_first : First first
  pub is_second : Second second
  pub whole : piece ≡ first ++ second

-- the pieces of all items, in order
unfoldable pub Each : {A : Type 0} → (A → List ℕ → Type 0) → List A → List ℕ → Type 0
Each Item [] piece = piece ≡ []
Each Item (x ∷ xs) piece = Joined (Item x) (Each Item xs) piece

-- each item after a true bool, then a false bool if there are fewer than `most` items
unfoldable pub Listed : {A : Type 0} → (A → List ℕ → Type 0) → ℕ → List A → List ℕ → Type 0
Listed Item zero [] piece = piece ≡ []
Listed Item (suc most) [] piece = SpellsBool false piece
Listed Item zero (x ∷ xs) piece = ⊥
Listed Item (suc most) (x ∷ xs) piece = Joined (SpellsBool true) (Joined (Item x) (Listed Item most xs)) piece
