-- Readings that are sound and complete for a grammar.
use Rattle.std.proofs.Common.{◌≡◌, ℕ, zero, suc, ◌<◌, ◌≤◌, Bool, true, false, cond, List, [], ◌∷◌, ◌++◌, length, take, drop}
use Rattle.std.proofs.Common.{Result, Ok, Err, refl, sym, ap, subst, ◌∙◌, append_assoc, append-nil, arith}
use Rattle.std.proofs.lemmas.Bool.{ltb-false, ltb-true, le-ltb, lt-ltb, eqb-true}
use Rattle.std.proofs.lemmas.List.{take_at, drop_at, take-append-drop, length-append, length-take, nil_from_length}
use Rattle.smith_binary.specs.Pieces.{IsByte, Joined, Each}
use Rattle.smith_binary_read.specs.declared.error.Fault.{Fault}
use Rattle.smith_binary_read.specs.Readings.{Reading, ◌>>=◌, byte_at, bytes_at, joined_at, mapped_at, each_at, whole_at}
use Rattle.smith_binary_read.specs.Decodes.{Front, Decodes, DecodesWhole}

-- what follows from either way of a test
pub branch : {A G : Type 0} (b : Bool) (x y z : Result A Fault) → cond b x y ≡ z → (b ≡ true → x ≡ z → G) → (b ≡ false → y ≡ z → G) → G
branch true x y z e if_true if_false = if_true refl e
branch false x y z e if_true if_false = if_false refl e

-- what follows from a test that did not fail
pub test_passed : {A G : Type 0} (b : Bool) (d : Fault) (x : Result A Fault) (y : A) → cond b x (Err d) ≡ Ok y → (b ≡ true → x ≡ Ok y → G)
    → G
test_passed true d x y e onward = onward refl e
test_passed false d x y e onward = absurd cc

-- what follows from a test of a fault that did not fail
pub fault_avoided : {A G : Type 0} (b : Bool) (d : Fault) (x : Result A Fault) (y : A) → cond b (Err d) x ≡ Ok y
    → (b ≡ false → x ≡ Ok y → G) → G
fault_avoided true d x y e onward = absurd cc
fault_avoided false d x y e onward = onward refl e

-- what follows from a step that did not fail
pub step : {A B G : Type 0} (r : Result A Fault) (f : A → Result B Fault) (y : B) → (r >>= f) ≡ Ok y
    → ((x : A) → r ≡ Ok x → f x ≡ Ok y → G) → G
step (Ok x) f y e next = next x refl e
step (Err d) f y e next = absurd cc

-- an item was read
abbrev pub item_and_rest : {A : Type 0} → A → List ℕ → Reading A
item_and_rest x rest = Ok (x, rest)

pair_is : {A : Type 0} (p q : A × List ℕ) → item_and_rest p.0 p.1 ≡ item_and_rest q.0 q.1 → p ≡ q
pair_is p q e = cc

-- the parts of what was read
pub item_is : {A : Type 0} (x y : A) (rest other : List ℕ) → item_and_rest x rest ≡ item_and_rest y other → (x ≡ y) × (rest ≡ other)
item_is {A = A} x y rest other e =
    let same = pair_is (x, rest) (y, other) e in (ap (λ (p : A × List ℕ). p.0) same, ap (λ (p : A × List ℕ). p.1) same)

-- a property that follows from another
pub front_as : {P Q : List ℕ → Type 0} {bytes rest : List ℕ} → ((piece : List ℕ) → P piece → Q piece) → Front P bytes rest
    → Front Q bytes rest
front_as weaker one = record { piece = one.piece; spelled = weaker one.piece one.spelled; whole = one.whole }

-- nothing
pub front_nothing : {P : List ℕ → Type 0} (bytes : List ℕ) → P [] → Front P bytes bytes
front_nothing bytes h = record { piece = []; spelled = h; whole = refl }

-- one piece, then another
pub front_joined : {P Q : List ℕ → Type 0} {bytes between rest : List ℕ} → Front P bytes between → Front Q between rest
    → Front (Joined P Q) bytes rest
front_joined {rest = rest} one two = record {
  piece = one.piece ++ two.piece;
  spelled = record { first = one.piece; second = two.piece; is_first = one.spelled; is_second = two.spelled; whole = refl };
  whole = one.whole ∙ ap (λ (more : List ℕ). one.piece ++ more) two.whole ∙ sym (append_assoc one.piece two.piece rest);
}

-- what was read is at another name
pub front_same : {A : Type 0} (P : A → List ℕ → Type 0) {bytes : List ℕ} (x y : A) (rest other : List ℕ)
    → item_and_rest x rest ≡ item_and_rest y other → Front (P x) bytes rest → Front (P y) bytes other
front_same P {bytes = bytes} x y rest other e one =
    let same = item_is x y rest other e in
    subst (Front (P y) bytes) same.1 (subst (λ (z : _). Front (P z) bytes rest) same.0 one)

-- the first of two pieces is read
pub first_read : {A : Type 0} {P : A → List ℕ → Type 0} {Second : List ℕ → Type 0} {p : List ℕ → Reading A} {piece : List ℕ} (x : A)
    (rest : List ℕ) → Decodes P p → (h : Joined (P x) Second piece) → p (piece ++ rest) ≡ Ok (x, h.second ++ rest)
first_read {p = p} x rest p_reads h =
    ap p (ap (λ (bytes : List ℕ). bytes ++ rest) h.whole ∙ append_assoc h.first h.second rest)
    ∙ p_reads.complete x h.first (h.second ++ rest) h.is_first

-- an item of two parts
pub joined_decodes : {A B C : Type 0} {P : A → List ℕ → Type 0} {Q : B → List ℕ → Type 0} {p : List ℕ → Reading A} {q : List ℕ → Reading B}
    (make : A → B → C) (one : C → A) (two : C → B)
    → ((x : A) (y : B) → one (make x y) ≡ x) → ((x : A) (y : B) → two (make x y) ≡ y) → ((z : C) → make (one z) (two z) ≡ z)
    → Decodes P p → Decodes Q q → Decodes (λ (z : C). Joined (P (one z)) (Q (two z))) (joined_at make p q)
joined_decodes {C = C} {P = P} {Q = Q} {p = p} {q = q} make one two at_one at_two again p_reads q_reads = record {
  sound = λ bytes z rest e. step _ _ _ e (λ x first e. step _ _ _ e (λ y second e.
      front_same (λ (z : C). Joined (P (one z)) (Q (two z))) (make x.0 y.0) z y.1 rest e
      (front_joined (front_as (λ piece h. subst (λ (a : _). P a piece) (sym (at_one x.0 y.0)) h) (p_reads.sound bytes x.0 x.1 first))
      (front_as (λ piece h. subst (λ (b : _). Q b piece) (sym (at_two x.0 y.0)) h) (q_reads.sound x.1 y.0 y.1 second)))));
  complete = λ z piece rest h. rw (first_read (one z) rest p_reads h, q_reads.complete (two z) h.second rest h.is_second)
      (ap (λ (z : C). Ok (z, rest)) (again z));
}

-- an item of one part
pub mapped_decodes : {A B : Type 0} {P : A → List ℕ → Type 0} {p : List ℕ → Reading A} (make : A → B) (part : B → A)
    → ((x : A) → part (make x) ≡ x) → ((z : B) → make (part z) ≡ z)
    → Decodes P p → Decodes (λ (z : B). P (part z)) (mapped_at make p)
mapped_decodes {B = B} {P = P} {p = p} make part at_part again p_reads = record {
  sound = λ bytes z rest e. step _ _ _ e (λ x first e.
      front_same (λ (z : B). P (part z)) (make x.0) z x.1 rest e
      (front_as (λ piece h. subst (λ (a : _). P a piece) (sym (at_part x.0)) h) (p_reads.sound bytes x.0 x.1 first)));
  complete = λ z piece rest h. rw (p_reads.complete (part z) piece rest h) (ap (λ (z : B). Ok (z, rest)) (again z));
}

-- the same readings of another grammar of the same
pub decodes_as : {A : Type 0} {P Q : A → List ℕ → Type 0} {p : List ℕ → Reading A} → ((x : A) (piece : List ℕ) → P x piece → Q x piece)
    → ((x : A) (piece : List ℕ) → Q x piece → P x piece) → Decodes P p → Decodes Q p
decodes_as forth back p_reads = record {
  sound = λ bytes x rest e. front_as (forth x) (p_reads.sound bytes x rest e);
  complete = λ x piece rest h. p_reads.complete x piece rest (back x piece h);
}

-- a byte
pub byte_sound : (bytes : List ℕ) (x : ℕ) (rest : List ℕ) → byte_at bytes ≡ Ok (x, rest) → Front (IsByte x) bytes rest × (x < 256)
byte_sound [] x rest e = absurd cc
byte_sound (byte ∷ bytes) x rest e = test_passed _ _ _ _ e (λ low e.
    let same = item_is byte x bytes rest e in
    let below : byte < 256 = ltb-true byte 256 low in (
      record { piece = byte ∷ []; spelled = ap (λ (b : ℕ). b ∷ []) same.0; whole = ap (λ (more : List ℕ). byte ∷ more) same.1 },
      subst
          (λ (b : ℕ). b < 256) same.0 below,
    ))

pub byte_complete : (x : ℕ) (piece rest : List ℕ) → x < 256 → IsByte x piece → byte_at (piece ++ rest) ≡ Ok (x, rest)
byte_complete x piece rest low h = ap (λ (bytes : List ℕ). byte_at (bytes ++ rest)) h ∙ rw (lt-ltb x 256 low) refl

-- items in order
pub each_sound : {A : Type 0} (P : A → List ℕ → Type 0) (p : List ℕ → Reading A) → Decodes P p
    → (count : ℕ) (bytes : List ℕ) (xs : List A) (rest : List ℕ) → each_at p count bytes ≡ Ok (xs, rest) → Front (Each P xs) bytes rest
    × (length xs ≡ count)
unfolding each_at Each
each_sound P p p_reads zero bytes xs rest e =
    let same = item_is [] xs bytes rest e in
    (front_same (Each P) [] xs bytes rest e (front_nothing bytes refl), ap length (sym same.0))
each_sound P p p_reads (suc count) bytes xs rest e = step _ _ _ e (λ x first e. step _ _ _ e (λ more second e.
    let others = each_sound P p p_reads count x.1 more.0 more.1 second in
    let same = item_is (x.0 ∷ more.0) xs more.1 rest e in (
      front_same (Each P) (x.0 ∷ more.0) xs more.1 rest e (front_joined (p_reads.sound bytes x.0 x.1 first) others.0),
      omega
          (arith, ap length (sym same.0), others.1),
    )))

pub each_complete : {A : Type 0} (P : A → List ℕ → Type 0) (p : List ℕ → Reading A) → Decodes P p → (xs : List A) (piece rest : List ℕ)
    → Each P xs piece → each_at p (length xs) (piece ++ rest) ≡ Ok (xs, rest)
unfolding each_at Each
each_complete P p p_reads [] piece rest h = ap (λ (bytes : List ℕ). Ok ([], bytes ++ rest)) h
each_complete P p p_reads (x ∷ xs) piece rest h =
    rw (first_read x rest p_reads h, each_complete P p p_reads xs h.second rest h.is_second) refl

-- a number of bytes
pub bytes_sound : (count : ℕ) (bytes front rest : List ℕ) → bytes_at count bytes ≡ Ok (front, rest) → (bytes ≡ front ++ rest)
    × (length front ≡ count)
bytes_sound count bytes front rest e = fault_avoided _ _ _ _ e (λ enough e.
    let same = item_is (take count bytes) front (drop count bytes) rest e in
    let room : count ≤ length bytes = ltb-false (length bytes) count enough in (
      sym (take-append-drop count bytes) ∙ ap (λ (t : List ℕ). t ++ drop count bytes) same.0 ∙ ap (λ (t : List ℕ). front ++ t) same.1,
      omega (arith, ap length (sym same.0), length-take count bytes),
    ))

pub bytes_complete : (front rest : List ℕ) → bytes_at (length front) (front ++ rest) ≡ Ok (front, rest)
bytes_complete front rest =
    let enough : length front ≤ length (front ++ rest) = omega (arith, length-append front rest) in
    rw (le-ltb (length (front ++ rest)) (length front) enough, take_at front rest, drop_at front rest) refl

-- a reading of all of the bytes
pub whole_decodes : {A : Type 0} {P : A → List ℕ → Type 0} {p : List ℕ → Reading A} → Decodes P p → DecodesWhole P (whole_at p)
whole_decodes {P = P} {p = p} p_reads = record {
  sound = λ bytes x e. step _ _ _ e (λ y first e. test_passed _ _ _ _ e (λ none e.
      let one = p_reads.sound bytes y.0 y.1 first in
      let empty : y.1 ≡ [] = nil_from_length y.1 (eqb-true _ _ none) in
      let piece : bytes ≡ one.piece = one.whole ∙ ap (λ (rest : List ℕ). one.piece ++ rest) empty ∙ append-nil one.piece in
      let same : y.0 ≡ x = cc in
      subst (λ (z : _). P z bytes) same (subst (P y.0) (sym piece) one.spelled)));
  complete = λ x bytes h. rw (ap p (sym (append-nil bytes)) ∙ p_reads.complete x bytes [] h) refl;
}

-- bytes that are read to their end are spelled
pub all_spelled : {A : Type 0} {P : A → List ℕ → Type 0} {p : List ℕ → Reading A} → Decodes P p → (bytes : List ℕ) (x : A)
    → p bytes ≡ Ok (x, []) → P x bytes
all_spelled {P = P} p_reads bytes x e =
    let one = p_reads.sound bytes x [] e in
    subst (P x) (sym (one.whole ∙ append-nil one.piece)) one.spelled
