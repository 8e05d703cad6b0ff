-- Pieces after a first byte: a tag, or a prefix before a number.
use Rattle.std.proofs.Common.{ℕ, List, [], ◌∷◌, ◌++◌, refl, ap, ◌∙◌, append_assoc}
use Rattle.smith_binary.specs.Numbers.{IsUnsigned}
use Rattle.smith_binary.specs.Pieces.{IsByte, Joined}
use Rattle.smith_binary_sections.specs.Instructions.{IsPrefixed}
use Rattle.smith_binary_read.specs.Decodes.{Front}

-- after a tag
pub tag_joined : (tag : ℕ) (P : List ℕ → Type 0) (bytes between rest : List ℕ) → Front (IsByte tag) bytes between
    → Front (λ piece. P (tag ∷ piece)) between rest → Front P bytes rest
tag_joined tag P bytes between rest one two = record {
  piece = tag ∷ two.piece;
  spelled = two.spelled;
  whole = one.whole ∙ ap (λ (piece : List ℕ). piece ++ between) one.spelled ∙ ap (λ (more : List ℕ). tag ∷ more) two.whole;
}

-- a prefix before a number
pub prefix_alone : (prefix number : ℕ) (piece : List ℕ) → IsUnsigned 32 number piece → IsPrefixed prefix number (prefix ∷ piece)
prefix_alone prefix number piece h = record { first = prefix ∷ []; second = piece; is_first = refl; is_second = h; whole = refl }

-- a prefix apart from a number and more
pub prefix_apart : {P : List ℕ → Type 0} {piece : List ℕ} (prefix number : ℕ) → Joined (IsPrefixed prefix number) P piece
    → Joined (IsByte prefix) (Joined (IsUnsigned 32 number) P) piece
prefix_apart prefix number h = record {
  first = h.is_first.first;
  second = h.is_first.second ++ h.second;
  is_first = h.is_first.is_first;
  is_second = record {
    first = h.is_first.second;
    second = h.second;
    is_first = h.is_first.is_second;
    is_second = h.is_second;
    whole = refl;
  };
  whole = h.whole ∙ ap (λ (front : List ℕ). front ++ h.second) h.is_first.whole ∙ append_assoc h.is_first.first h.is_first.second h.second;
}
