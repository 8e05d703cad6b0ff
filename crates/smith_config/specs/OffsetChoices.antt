-- The weights for offsets of memory accesses, and their text form. Rules of this project.
use Rattle.std.specs.Prelude.{◌≡◌, ℕ, ◌<◌, ◌≢◌, List, [], ◌∷◌, length, take, Result, Ok, Err, slice_get, Some}
use Rattle.std.specs.List.{AllZip}
use Rattle.smith_types.specs.Syntax.SplitTexts.{split_at_commas}
use Rattle.std.specs.Str.Parse.{ParsesUnsigned}
use Rattle.smith_config.specs.declared.offset_choices.MemoryOffsetChoices.{MemoryOffsetChoices}
use Rattle.smith_config.specs.declared.offset_choices.OffsetChoicesFault.{OffsetChoicesFault}
use Rattle.smith_config.specs.declared.offset_choices.OffsetChoicesFault.TheVariants.{NeedThree, Number, TooMany, AllZero}

-- of 100 offsets, 90 are below the minimum size, 9 are up to the maximum size, and 1 is above it
abbrev pub default_choices : MemoryOffsetChoices
default_choices = record { 0 = 90; 1 = 9; 2 = 1 }

-- three weights of zero
abbrev pub zero_choices : MemoryOffsetChoices
zero_choices = record { 0 = 0; 1 = 0; 2 = 0 }

-- the text is a 32-bit number: an optional plus sign and decimal digits
abbrev pub IsNumber : List ℕ → ℕ → Type 0
IsNumber text number = ParsesUnsigned {E = Unit {0}} 32 10 text (Ok number)

-- each text is a number
abbrev pub AllNumbers : List (List ℕ) → Type 0
AllNumbers texts = (numbers : List ℕ) × AllZip IsNumber texts numbers

-- the part at `place`, one of the first three, is the first that is not a number
pub record IsFirstWrong (parts : List (List ℕ)) (place : ℕ) : Type 0 where
  pub early : place < 3
  pub text : List ℕ
  pub there : slice_get parts place ≡ Some text
  pub wrong : (number : ℕ) → ¬ IsNumber text number
  pub before : AllNumbers (take place parts)

-- the result of parsing: three numbers that are not all zero, or the first fault from the left
abbrev pub AreReadChoices : List ℕ → Result MemoryOffsetChoices OffsetChoicesFault → Type 0
AreReadChoices text (Ok choices) =
    AllZip IsNumber (split_at_commas text) (choices.0 ∷ choices.1 ∷ choices.2 ∷ []) × (choices ≢ zero_choices)
AreReadChoices text (Err NeedThree) = (length (split_at_commas text) < 3) × AllNumbers (split_at_commas text)
AreReadChoices text (Err (Number place)) = IsFirstWrong (split_at_commas text) place
AreReadChoices text (Err TooMany) = (3 < length (split_at_commas text)) × AllNumbers (take 3 (split_at_commas text))
AreReadChoices text (Err AllZero) = AllZip IsNumber (split_at_commas text) (0 ∷ 0 ∷ 0 ∷ [])
