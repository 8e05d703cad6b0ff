-- Laws of draws: from a piece that spells a value, a draw returns this value and leaves the bytes
-- after the piece.
use Rattle.std.specs.Prelude.{◌≡◌, ℕ, ◌+◌, Bool, false, IsTrue, List, ◌++◌, length}
use Rattle.smith_bytes.specs.Draws.{bool_at, range_at, ratio_at}
use Rattle.smith_bytes.specs.Growth.{grow_at}
use Rattle.smith_bytes.specs.Spelling.{SpellsBool, SpellsNumber, SpellsRefusal, Each, Listed}

-- draws of bools, numbers and refusals read the spelled values
pub record DrawsReadWhatIsSpelled : Type 0 where
  pub bool : (value : Bool) (piece after : List ℕ) → SpellsBool value piece → bool_at (piece ++ after) ≡ (value, after)
  pub number : (value lo hi : ℕ) (piece after : List ℕ) → SpellsNumber value lo hi piece → range_at lo hi (piece ++ after) ≡ (value, after)
  pub refusal : (chances : ℕ) (piece after : List ℕ) → SpellsRefusal chances piece → ratio_at 1 chances (piece ++ after) ≡ (false, after)

-- from the spelling of an item, the draw gives the item, whatever the items before it
abbrev pub ReadsEach : {A : Type 0} → (A → List ℕ → Type 0) → (List A → List ℕ → A × List ℕ) → Type 0
ReadsEach {A = A} Item draw = (made : List A) (x : A) (piece after : List ℕ) → Item x piece → draw made (piece ++ after) ≡ (x, after)

-- a test accepts the spelling of a value
abbrev pub Spelled : {A : Type 0} → (A → List ℕ → Bool) → A → List ℕ → Type 0
Spelled is_spelled x piece = IsTrue (is_spelled x piece)

-- if a draw reads each item, a list of such draws reads items that are spelled after bools
-- (`asked`), and items up to the minimum that are spelled without bools (`needed`)
pub record ListsReadWhatIsSpelled (A : Type 0) : Type 0 where
  pub asked : (is_spelled : A → List ℕ → Bool) (draw : List A → List ℕ → A × List ℕ) (most : ℕ) (made xs : List A) (piece after : List ℕ)
      → ReadsEach (Spelled is_spelled) draw → Listed (Spelled is_spelled) most xs piece → grow_at draw 0 most made (piece ++ after)
      ≡ (made ++ xs, after)
  pub needed : (is_spelled : A → List ℕ → Bool) (draw : List A → List ℕ → A × List ℕ) (least : ℕ) (made xs : List A) (piece after : List ℕ)
      → ReadsEach (Spelled is_spelled) draw → least ≡ length made + length xs → Each (Spelled is_spelled) xs piece
      → grow_at draw least (length xs) made (piece ++ after) ≡ (made ++ xs, after)
