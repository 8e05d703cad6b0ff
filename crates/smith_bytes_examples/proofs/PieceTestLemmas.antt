-- A test whether bytes contain a piece.
use Rattle.std.proofs.Common.{◌≡◌, ℕ, Bool, true, false, ◌&&◌, ◌||◌, nat_eq, List, [], ◌∷◌, ◌++◌, refl, ap, ◌∙◌}
use Rattle.std.proofs.Math.Bool.{or-true}
use Rattle.std.proofs.lemmas.Bool.{eq-eqb}
use Rattle.smith_bytes.specs.Source.{IsPiece}

-- whether the bytes start with the piece
abbrev pub begins : List ℕ → List ℕ → Bool
begins bytes [] = true
begins [] (p ∷ piece) = false
begins (b ∷ bytes) (p ∷ piece) = nat_eq b p && begins bytes piece

-- whether the piece occurs at some position
abbrev pub has : List ℕ → List ℕ → Bool
has [] piece = begins [] piece
has (b ∷ bytes) piece = begins (b ∷ bytes) piece || has bytes piece

begins_append : (piece after : List ℕ) → begins (piece ++ after) piece ≡ true
begins_append [] after = refl
begins_append (p ∷ piece) after = rw (eq-eqb p p refl) (begins_append piece after)

has_front : (bytes piece : List ℕ) → begins bytes piece ≡ true → has bytes piece ≡ true
has_front [] piece h = h
has_front (b ∷ bytes) piece h = rw h refl

has_parts : (before piece after : List ℕ) → has (before ++ (piece ++ after)) piece ≡ true
has_parts [] piece after = has_front (piece ++ after) piece (begins_append piece after)
has_parts (b ∷ before) piece after = rw (has_parts before piece after) (or-true (begins (b ∷ (before ++ (piece ++ after))) piece))

pub piece_has : {bytes piece : List ℕ} → IsPiece bytes piece → has bytes piece ≡ true
piece_has {piece = piece} p = ap (λ (o : List ℕ). has o piece) p.parts ∙ has_parts p.before piece p.after
