-- Pieces written one after another.
use Rattle.smith_spell.proofs.Common.{[], ap, append-nil, append_assoc, Joined, List, refl, subst, sym, ℕ, ◌++◌, ◌∙◌, ◌∷◌, ◌≡◌}
use Rattle.smith_spell.specs.Written.{Writes}

-- nothing is written if no byte spells the item
pub nothing_written : {Spells : List ℕ → Type 0} {old : List ℕ} → Spells [] → Writes Spells old old
nothing_written {old = old} spelled = record { piece = []; spelled = spelled; whole = sym (append-nil old) }

-- one byte
pub byte_written : {Spells : List ℕ → Type 0} {old new : List ℕ} (byte : ℕ) → Spells (byte ∷ []) → new ≡ old ++ byte ∷ []
    → Writes Spells old new
byte_written byte spelled whole = record { piece = byte ∷ []; spelled = spelled; whole = whole }

-- one piece, and another after it
pub joined_written : {First Second : List ℕ → Type 0} {old between new : List ℕ} → Writes First old between → Writes Second between new
    → Writes (Joined First Second) old new
joined_written {old = old} {between = between} {new = new} one other = record {
  piece = one.piece ++ other.piece;
  spelled = record { first = one.piece; second = other.piece; is_first = one.spelled; is_second = other.spelled; whole = refl };
  whole = other.whole ∙ ap (λ (bytes : List ℕ). bytes ++ other.piece) one.whole ∙ append_assoc old one.piece other.piece;
}

-- a piece with one property that implies another
pub written_as : {Spells Other : List ℕ → Type 0} {old new : List ℕ} → ((piece : List ℕ) → Spells piece → Other piece)
    → Writes Spells old new → Writes Other old new
written_as weaker one = record { piece = one.piece; spelled = weaker one.piece one.spelled; whole = one.whole }

-- the bytes written after none
pub written_whole : {Spells : List ℕ → Type 0} {new : List ℕ} → Writes Spells [] new → Spells new
written_whole {Spells = Spells} one = subst Spells (sym one.whole) one.spelled

-- three joined pieces, grouped the other way
pub regrouped : {First Second Third : List ℕ → Type 0} {piece : List ℕ} → Joined (Joined First Second) Third piece
    → Joined First (Joined Second Third) piece
regrouped {piece = piece} outer =
    let inner = outer.is_first in
    let apart : piece ≡ (inner.first ++ inner.second) ++ outer.second = subst (λ part. piece ≡ part ++ outer.second) inner.whole
    outer.whole in
    record {
      first = inner.first;
      second = inner.second ++ outer.second;
      is_first = inner.is_first;
      is_second = record {
        first = inner.second;
        second = outer.second;
        is_first = inner.is_second;
        is_second = outer.is_second;
        whole = refl;
      };
      whole = apart ∙ append_assoc inner.first inner.second outer.second;
    }
