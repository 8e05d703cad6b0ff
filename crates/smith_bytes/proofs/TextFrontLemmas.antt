-- Bounds of the longest UTF-8 prefix of some bytes, from a part of them.
use Rattle.std.proofs.Common.{◌≡◌, ℕ, zero, suc, ◌+◌, ◌-◌, ◌<◌, ◌≤◌, Bool, true, false, cond, List, [], ◌∷◌, length, take, drop, get_or}
use Rattle.std.proofs.Common.{IsUtf8, subst, sym, ap, ◌∙◌, refl, arith, length-take, length-drop, length-append, take-take}
use Rattle.std.specs.Str.{IsCharBoundary, all_scalars, encode_utf8_all, is_utf8}
use Rattle.std.specs.Str.Lossy.{valid_len_up_to, utf8_valid_len}
use Rattle.std.specs.Char.{encode_utf8}
use Rattle.std.proofs.lemmas.Bool.{and_parts, cases_lt, false≢true}
use Rattle.std.proofs.lemmas.List.{drop-take, get_or-take}
use Rattle.std.proofs.lemmas.Str.{IsUtf8-nil, IsUtf8-encode, IsUtf8-drop, IsUtf8-from_is_utf8, is_utf8-from_IsUtf8, length-encode}
use Rattle.std.proofs.lemmas.Str.{len_utf8_bounds, utf8_valid_len_le}
use Rattle.std.proofs.Math.Logic.{⊎_elim}
use Rattle.std.proofs.Math.Seq.{take-append_seam}
use Rattle.simdutf8.proofs.Parts.{front_and_part, rest_of_whole}

-- the first n bytes are UTF-8, and no longer prefix of at most `most` bytes is
record IsLongestFront (bs : List ℕ) (most n : ℕ) : Type 0 where
  pub front : IsUtf8 (take n bs)
  pub longest : (m : ℕ) → n < m → m ≤ most → ¬ (IsUtf8 (take m bs))

front_by_test : (bs : List ℕ) (n : ℕ) (b : Bool) → is_utf8 (take (suc n) bs) ≡ b → IsLongestFront bs n (valid_len_up_to bs n)
    → IsLongestFront bs (suc n) (cond b (suc n) (valid_len_up_to bs n))
front_by_test bs n true test below = record {
  front = IsUtf8-from_is_utf8 _ test;
  longest = λ m more most. absurd (omega arith);
}
front_by_test bs n false test below = record {
  front = below.front;
  longest = λ m more most text.
      let top : ¬ (m ≡ suc n) = λ same. false≢true (sym test ∙ is_utf8-from_IsUtf8 _ (subst (λ k. IsUtf8 (take k bs)) same text)) in
      below.longest m more (omega arith) text;
}

longest_front : (bs : List ℕ) (most : ℕ) → IsLongestFront bs most (valid_len_up_to bs most)
longest_front bs zero = record { front = IsUtf8-nil; longest = λ m more most. absurd (omega arith) }
longest_front bs (suc n) = front_by_test bs n (is_utf8 (take (suc n) bs)) refl (longest_front bs n)

valid_len_text : (bs : List ℕ) → IsUtf8 (take (utf8_valid_len bs) bs)
unfolding utf8_valid_len
valid_len_text bs = (longest_front bs (length bs)).front

valid_len_longest : (bs : List ℕ) (n : ℕ) → n ≤ length bs → IsUtf8 (take n bs) → n ≤ utf8_valid_len bs
unfolding utf8_valid_len
valid_len_longest bs n within text =
    ⊎_elim (λ more. absurd ((longest_front bs (length bs)).longest n more within text)) (λ most. most) (cases_lt (utf8_valid_len bs) n)

-- a UTF-8 text that is not empty starts with a character of at most four bytes
record BeginsWithText (bs : List ℕ) : Type 0 where
  pub size : ℕ
  pub some : 0 < size
  pub most : size ≤ 4
  pub within : size ≤ length bs
  pub text : IsUtf8 (take size bs)

begins_with_text : (bs cs : List ℕ) → all_scalars cs ≡ true → encode_utf8_all cs ≡ bs → 0 < length bs → BeginsWithText bs
begins_with_text bs [] valid spelt some = absurd (omega (arith, some, ap length spelt))
begins_with_text bs (c ∷ cs) valid spelt some =
    let bounds = len_utf8_bounds c in
    let size = length-encode c in
    let first = ap (take (length (encode_utf8 c))) (sym spelt) ∙ take-append_seam (encode_utf8 c) (encode_utf8_all cs) in
    record {
      size = length (encode_utf8 c);
      some = omega arith;
      most = omega arith;
      within = omega (arith, ap length (sym spelt), length-append (encode_utf8 c) (encode_utf8_all cs));
      text = subst IsUtf8 (sym first) (IsUtf8-encode c (and_parts _ _ valid).0);
    }

longer_text : (bs : List ℕ) (n m size : ℕ) → n ≤ length (take m bs) → n + size ≤ m → IsUtf8 (take n bs)
    → IsUtf8 (take size (drop n (take m bs))) → IsUtf8 (take (n + size) bs)
longer_text bs n m size some within front part =
    let begun = subst IsUtf8 (sym (take-take n m bs (omega arith))) front in
    subst IsUtf8 (take-take (n + size) m bs within) (front_and_part (take m bs) n some begun size part)

-- if the first n bytes and the first m > n bytes are UTF-8, some UTF-8 prefix is longer than n by
-- at most one character
record ReachesFurther (bs : List ℕ) (n m : ℕ) : Type 0 where
  pub to : ℕ
  pub further : n < to
  pub near : to ≤ n + 4
  pub text : IsUtf8 (take to bs)

reaches_further : (bs : List ℕ) (n m : ℕ) → n < length (take m bs) → IsUtf8 (take n bs) → IsUtf8 (take m bs) → ReachesFurther bs n m
reaches_further bs n m short front text =
    let some : n ≤ length (take m bs) = omega arith in
    let below : n ≤ m = omega (arith, length-take m bs) in
    let rest = rest_of_whole (take m bs) n some (subst IsUtf8 (sym (take-take n m bs below)) front) text in
    let next = begins_with_text (drop n (take m bs)) rest.0 rest.1.0 rest.1.1 (omega (arith, length-drop n (take m bs))) in
    let within : n + next.size ≤ m = omega (arith, next.within, length-drop n (take m bs), length-take m bs) in
    record {
      to = n + next.size;
      further = omega (arith, next.some);
      near = omega (arith, next.most);
      text = longer_text bs n m next.size some within front next.text;
    }

part_text : (bs : List ℕ) (part : ℕ) → part ≤ length bs → IsUtf8 (take (utf8_valid_len (take part bs)) bs)
part_text bs part within =
    let most = utf8_valid_len_le (take part bs) in
    let inside : utf8_valid_len (take part bs) ≤ part = omega (arith, length-take part bs) in
    subst IsUtf8 (take-take (utf8_valid_len (take part bs)) part bs inside) (valid_len_text (take part bs))

part_longest : (bs : List ℕ) (part n : ℕ) → part ≤ length bs → n ≤ part → IsUtf8 (take n bs) → n ≤ utf8_valid_len (take part bs)
part_longest bs part n within inside text =
    valid_len_longest (take part bs) n (omega (arith, length-take part bs)) (subst IsUtf8 (sym (take-take n part bs inside)) text)

-- if the longest UTF-8 prefix ends within a prefix of the bytes, the longest UTF-8 prefix of that
-- part is the same
pub valid_len_by_part : (bs : List ℕ) (part : ℕ) → part ≤ length bs → utf8_valid_len bs ≤ part → utf8_valid_len bs ≡ utf8_valid_len
    (take part bs)
valid_len_by_part bs part within inside =
    let most = utf8_valid_len_le (take part bs) in
    let up = part_longest bs part (utf8_valid_len bs) within inside (valid_len_text bs) in
    let down = valid_len_longest bs (utf8_valid_len (take part bs)) (omega (arith, length-take part bs)) (part_text bs part within) in
    omega arith

-- if a whole character still fits after the longest UTF-8 prefix of the window, no UTF-8 prefix
-- extends beyond the window
pub valid_len_by_window : (bs : List ℕ) (window : ℕ) → window ≤ length bs → utf8_valid_len (take window bs) + 4 ≤ window
    → utf8_valid_len bs ≤ window
valid_len_by_window bs window within room =
    let n = utf8_valid_len (take window bs) in
    let m = utf8_valid_len bs in
    ⊎_elim
    (λ beyond.
    let most = utf8_valid_len_le bs in
    let next = reaches_further bs n m (omega (arith, length-take m bs)) (part_text bs window within) (valid_len_text bs) in
    let inside = part_longest bs window next.to within (omega (arith, next.near)) next.text in
    absurd (omega (arith, next.further)))
    (λ done. done)
    (cases_lt window m)

-- from a position where a character starts, or the end, the longest UTF-8 prefix of the rest bounds
-- that of all bytes
pub valid_len_by_rest : (bs : List ℕ) (start : ℕ) → start ≤ length bs → (start < length bs → 192 ≤ get_or bs start 0)
    → utf8_valid_len bs ≤ start + utf8_valid_len (drop start bs)
valid_len_by_rest bs start within begins =
    let m = utf8_valid_len bs in
    let most = utf8_valid_len_le bs in
    ⊎_elim
    (λ before. omega arith)
    (λ following.
    let same : start + (m - start) ≡ m = omega arith in
    let long = length-take m bs in
    let boundary : IsCharBoundary (take m bs) start =
    (omega arith, λ inside some. subst (λ b. 192 ≤ b) (sym (get_or-take m bs start 0 (omega arith))) (begins (omega arith))) in
    let rest = IsUtf8-drop (take m bs) start (valid_len_text bs) boundary in
    let part = subst IsUtf8 (ap (λ k. drop start (take k bs)) (sym same) ∙ drop-take start (m - start) bs) rest in
    let reached = valid_len_longest (drop start bs) (m - start) (omega (arith, length-drop start bs)) part in
    omega arith)
    (cases_lt m start)
