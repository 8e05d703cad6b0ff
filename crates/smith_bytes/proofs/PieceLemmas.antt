-- A piece of a piece is a piece.
use Rattle.std.proofs.Common.{◌≡◌, ℕ, List, [], ◌++◌, refl, sym, ap, ◌∙◌, append_assoc, take, drop}
use Rattle.std.proofs.lemmas.List.{append-nil, take-append-drop}
use Rattle.smith_bytes.specs.Source.{IsPiece}

pub piece_same : (a : List ℕ) → IsPiece a a
piece_same a = record { before = []; after = []; parts = sym (append-nil a) }

pub piece_then : {a b c : List ℕ} → IsPiece a b → IsPiece b c → IsPiece a c
piece_then {a = a} {b = b} {c = c} p q = record {
  before = p.before ++ q.before;
  after = q.after ++ p.after;
  parts = p.parts ∙ ap (λ (x : List ℕ). p.before ++ (x ++ p.after)) q.parts ∙ simp append_assoc;
}

-- the bytes after the first n
pub piece_drop : (n : ℕ) (bytes : List ℕ) → IsPiece bytes (drop n bytes)
piece_drop n bytes = record { before = take n bytes; after = []; parts = rw (append-nil, take-append-drop) refl }

pub keeps_drop : {whole bytes rest : List ℕ} (n : ℕ) → rest ≡ drop n bytes → IsPiece whole bytes → IsPiece whole rest
keeps_drop {bytes = bytes} n e p = rw e (piece_then p (piece_drop n bytes))

pub piece_take : (n : ℕ) (bytes : List ℕ) → IsPiece bytes (take n bytes)
piece_take n bytes = record { before = []; after = drop n bytes; parts = sym (take-append-drop n bytes) }

pub keeps_take : {whole bytes rest : List ℕ} (n : ℕ) → rest ≡ take n bytes → IsPiece whole bytes → IsPiece whole rest
keeps_take {bytes = bytes} n e p = rw e (piece_then p (piece_take n bytes))
