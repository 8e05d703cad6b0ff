-- Columns, counted from the front of a text on.
use Rattle.std.proofs.Common.{◌≡◌, ℕ, ◌+◌, List, [], ◌∷◌, Bool, true, false, cond, if◌then◌else◌, not, ◌==◌, bit_and, refl, sym, ap, arith}
use Rattle.std.proofs.Common.{◌∙◌}
use Rattle.std.specs.Prelude.{count_by}
use Rattle.std.specs.List.{list_any}
use Rattle.std.proofs.lemmas.Bool.{ne_eqb}
use Rattle.std.proofs.lemmas.List.Sums.{sum_by-cons}
use Rattle.smith_config_json.specs.Lines.{begins, is_feed, last_line}

-- the characters of the last line, of which `seen` come before the bytes if these have no line feed
abbrev pub after : ℕ → List ℕ → ℕ
after seen bytes = if list_any is_feed bytes then count_by begins (last_line bytes) else seen + count_by begins bytes

first : (any : Bool) (line whole : List ℕ) → (if any then count_by begins (if any then line else whole) else 0 + count_by begins whole)
    ≡ count_by begins (if any then line else whole)
first true line whole = refl
first false line whole = omega arith

-- at the start of a line
pub fresh : (bytes : List ℕ) → after 0 bytes ≡ count_by begins (last_line bytes)
fresh [] = refl
fresh (byte ∷ bytes) = first (list_any is_feed (byte ∷ bytes)) (last_line bytes) (byte ∷ bytes)

-- a line feed begins a line
pub after_feed : (seen byte : ℕ) (bytes : List ℕ) → is_feed byte ≡ true → after seen (byte ∷ bytes) ≡ after 0 bytes
after_feed seen byte bytes feed = rw feed (sym (fresh bytes))

more : (any : Bool) (seen one all rest line : ℕ) → all ≡ one + rest → (if any then line else seen + all)
    ≡ (if any then line else (seen + one) + rest)
more true seen one all rest line same = refl
more false seen one all rest line same = omega (arith, same)

shorter : (any : Bool) (seen : ℕ) (all : ℕ) (line whole : List ℕ)
    → (if any then count_by begins (if any then line else whole) else seen + all) ≡ (if any then count_by begins line else seen + all)
shorter true seen all line whole = refl
shorter false seen all line whole = refl

-- another byte is in the line
after_byte : (seen byte : ℕ) (bytes : List ℕ) → is_feed byte ≡ false → after seen (byte ∷ bytes) ≡ after (seen + cond (begins byte) 1 0)
    bytes
after_byte seen byte bytes other =
    let any = list_any is_feed bytes in
    let all = count_by begins (byte ∷ bytes) in
    let counted : all ≡ cond (begins byte) 1 0 + count_by begins bytes = sum_by-cons (λ b. cond (begins b) 1 0) byte bytes in
    rw other (shorter any seen all (last_line bytes) (byte ∷ bytes) ∙ more any seen (cond (begins byte) 1 0) all (count_by begins bytes)
    (count_by begins (last_line bytes)) counted)

-- the first byte of a character is counted
pub after_first : (seen byte : ℕ) (bytes : List ℕ) → (byte ≡ 10 → ⊥) → (bit_and byte 192 ≡ 128 → ⊥) → after seen (byte ∷ bytes)
    ≡ after (seen + 1) bytes
after_first seen byte bytes other starts =
    after_byte seen byte bytes (ne_eqb byte 10 other) ∙ ap (λ (b : Bool). after (seen + cond b 1 0) bytes)
    (ap not (ne_eqb (bit_and byte 192) 128 starts))

-- a further byte of a character is not
pub after_further : (seen byte : ℕ) (bytes : List ℕ) → (byte ≡ 10 → ⊥) → bit_and byte 192 ≡ 128 → after seen (byte ∷ bytes)
    ≡ after seen bytes
after_further seen byte bytes other further =
    let unchanged : seen + 0 ≡ seen = omega arith in
    after_byte seen byte bytes (ne_eqb byte 10 other) ∙ ap (λ (n : ℕ). after (seen + cond (not (n == 128)) 1 0) bytes) further
    ∙ ap (λ (n : ℕ). after n bytes) unchanged
