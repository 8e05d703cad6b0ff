-- Spellings that have one meaning.
use Rattle.std.proofs.Common.{◌≡◌, ℕ, zero, suc, ◌-◌, ◌^◌, ◌<◌, ◌⊎◌, List, [], ◌∷◌, ◌++◌, length, refl, sym, subst, ap, ◌∙◌, arith, inl}
use Rattle.std.proofs.Common.{inr, append_assoc}
use Rattle.std.specs.Prelude.{ℤ, pos, negsuc, ◌+ℤ◌, ◌*ℤ◌}
use Rattle.std.proofs.lemmas.Int.{ints}
use Rattle.smith_binary.specs.Numbers.{IsUnsigned, IsSigned, IsLastPositive, IsLastNegative, IsLittleEndian, IsVector}
use Rattle.smith_binary.specs.Pieces.{IsByte, Joined, Each, IsList, IsName, IsSized, IsSection}
use Rattle.smith_binary.specs.Unambiguous.{Same, IsUnambiguous, IsUnambiguousWhole}

-- heads and tails of equal lists
pub same_head : {a b : ℕ} {xs ys : List ℕ} → a ∷ xs ≡ b ∷ ys → a ≡ b
same_head e = cc

pub same_tail : {a b : ℕ} {xs ys : List ℕ} → a ∷ xs ≡ b ∷ ys → xs ≡ ys
same_tail e = cc

unsigned_same : (bits m n : ℕ) (piece more rest other : List ℕ) → IsUnsigned bits m piece → IsUnsigned bits n more
    → piece ++ rest ≡ more ++ other → Same m n rest other
unfolding IsUnsigned
unsigned_same bits m n [] more rest other h k e = absurd h
unsigned_same bits m n (a ∷ piece) [] rest other h k e = absurd k
unsigned_same bits m n (a ∷ []) (b ∷ []) rest other h k e = record {
  item = let heads : a ≡ b = same_head e in
      omega arith;
  after = same_tail e;
}
unsigned_same bits m n (a ∷ []) (b ∷ d ∷ more) rest other h k e = absurd (let heads : a ≡ b = same_head e in omega arith)
unsigned_same bits m n (a ∷ c ∷ piece) (b ∷ []) rest other h k e = absurd (let heads : a ≡ b = same_head e in omega arith)
unsigned_same bits m n (a ∷ c ∷ piece) (b ∷ d ∷ more) rest other h k e =
    let heads : a ≡ b = same_head e in
    let deeper : Same h.0 k.0 rest other = unsigned_same (bits - 7) h.0 k.0 (c ∷ piece) (d ∷ more) rest other h.1 k.1 (same_tail e) in
    record { item = omega (arith, deeper.item); after = deeper.after }

last_same : (bits : ℕ) (x y : ℤ) (byte : ℕ) → IsLastPositive bits x byte ⊎ IsLastNegative bits x byte → IsLastPositive bits y byte
    ⊎ IsLastNegative bits y byte → x ≡ y
last_same bits x y byte (inl h) (inl k) = omega (arith, ints, h.value, k.value)
last_same bits x y byte (inl h) (inr k) = absurd (omega (arith, h.low, k.high))
last_same bits x y byte (inr h) (inl k) = absurd (omega (arith, k.low, h.high))
last_same bits x y byte (inr h) (inr k) = omega (arith, ints, h.value, k.value)

last_low : (bits : ℕ) (x : ℤ) (byte : ℕ) → IsLastPositive bits x byte ⊎ IsLastNegative bits x byte → byte < 128
last_low bits x byte (inl h) = omega (arith, h.low)
last_low bits x byte (inr h) = h.low

two_same : (x y m n : ℤ) (a b : ℕ) → a ≡ b → m ≡ n → x +ℤ pos 128 ≡ pos 128 *ℤ m +ℤ pos a → y +ℤ pos 128 ≡ pos 128 *ℤ n +ℤ pos b → x ≡ y
two_same x y m n a b heads same one two = omega (arith, ints)

signed_same : (bits : ℕ) (m n : ℤ) (piece more rest other : List ℕ) → IsSigned bits m piece → IsSigned bits n more
    → piece ++ rest ≡ more ++ other → Same m n rest other
unfolding IsSigned
signed_same bits m n [] more rest other h k e = absurd h
signed_same bits m n (a ∷ piece) [] rest other h k e = absurd k
signed_same bits m n (a ∷ []) (b ∷ []) rest other h k e = record {
  item = last_same bits m n a h (subst (λ (byte : ℕ). IsLastPositive bits n byte ⊎ IsLastNegative bits n byte) (sym (same_head e)) k);
  after = same_tail e;
}
signed_same bits m n (a ∷ []) (b ∷ d ∷ more) rest other h k e = absurd (let heads : a ≡ b = same_head e in let low = last_low bits m a h in
    omega arith)
signed_same bits m n (a ∷ c ∷ piece) (b ∷ []) rest other h k e = absurd (let heads : a ≡ b = same_head e in let low = last_low bits n b k in
    omega arith)
signed_same bits m n (a ∷ c ∷ piece) (b ∷ d ∷ more) rest other h k e =
    let deeper : Same h.0 k.0 rest other = signed_same (bits - 7) h.0 k.0 (c ∷ piece) (d ∷ more) rest other h.1 k.1 (same_tail e) in
    record { item = two_same m n h.0 k.0 a b (same_head e) deeper.item h.2 k.2; after = deeper.after }

-- integers
pub unsigned_is_unambiguous : (bits : ℕ) → IsUnambiguous (IsUnsigned bits)
unsigned_is_unambiguous bits = record { one = unsigned_same bits }

pub signed_is_unambiguous : (bits : ℕ) → IsUnambiguous (IsSigned bits)
signed_is_unambiguous bits = record { one = signed_same bits }

-- a byte
pub byte_is_unambiguous : IsUnambiguous IsByte
byte_is_unambiguous = record {
  one = λ x y piece more rest other h k e.
      let whole : x ∷ rest ≡ y ∷ other = cc in record { item = same_head whole; after = same_tail whole };
}

-- two unambiguous pieces
pub record SameTwo {A B : Type 0} (x y : A) (v w : B) (rest other : List ℕ) : Type 0 where
  pub first : x ≡ y
  pub second : v ≡ w
  pub after : rest ≡ other

-- the first of two pieces, if it is unambiguous: the second comes after it
pub first_same : {A : Type 0} {P : A → List ℕ → Type 0} {Second Other : List ℕ → Type 0} {x y : A} {piece more : List ℕ}
    (rest other : List ℕ) → IsUnambiguous P
    → (h : Joined (P x) Second piece) → (k : Joined (P y) Other more) → piece ++ rest ≡ more ++ other
    → Same x y (h.second ++ rest) (k.second ++ other)
first_same {x = x} {y = y} {piece = piece} {more = more} rest other P_one h k e =
    P_one.one x y h.first k.first (h.second ++ rest) (k.second ++ other) h.is_first k.is_first
    (sym (append_assoc h.first h.second rest) ∙ ap (λ (bytes : List ℕ). bytes ++ rest) (sym h.whole) ∙ e
    ∙ ap (λ (bytes : List ℕ). bytes ++ other) k.whole ∙ append_assoc k.first k.second other)

pub joined_same : {A B : Type 0} {P : A → List ℕ → Type 0} {Q : B → List ℕ → Type 0} {x y : A} {v w : B} {piece more rest other : List ℕ}
    → IsUnambiguous P → IsUnambiguous Q
    → Joined (P x) (Q v) piece → Joined (P y) (Q w) more → piece ++ rest ≡ more ++ other → SameTwo x y v w rest other
joined_same {v = v} {w = w} {rest = rest} {other = other} P_one Q_one h k e =
    let one = first_same rest other P_one h k e in
    let two = Q_one.one v w h.second k.second rest other h.is_second k.is_second one.after in
    record { first = one.item; second = two.item; after = two.after }

each_same : {A : Type 0} (P : A → List ℕ → Type 0) → IsUnambiguous P → (xs ys : List A) (piece more rest other : List ℕ)
    → length xs ≡ length ys → Each P xs piece → Each P ys more → piece ++ rest ≡ more ++ other → Same xs ys rest other
unfolding Each
each_same P P_one [] [] piece more rest other long h k e = record { item = refl; after = cc }
each_same P P_one [] (y ∷ ys) piece more rest other long h k e = absurd (omega arith)
each_same P P_one (x ∷ xs) [] piece more rest other long h k e = absurd (omega arith)
each_same P P_one (x ∷ xs) (y ∷ ys) piece more rest other long h k e =
    let one = first_same rest other P_one h k e in
    let two = each_same P P_one xs ys h.second k.second rest other (omega arith) h.is_second k.is_second one.after in
    record { item = cc; after = two.after }

-- lists of items with unambiguous spellings
pub list_is_unambiguous : {A : Type 0} {P : A → List ℕ → Type 0} → IsUnambiguous P → IsUnambiguous (IsList P)
list_is_unambiguous {P = P} P_one = record {
  one = λ xs ys piece more rest other h k e.
      let count = first_same rest other (unsigned_is_unambiguous 32) h k e in
      each_same P P_one xs ys h.second k.second rest other count.item h.is_second k.is_second count.after;
}

-- names
pub name_is_unambiguous : IsUnambiguous IsName
name_is_unambiguous = record {
  one = λ x y piece more rest other h k e. (list_is_unambiguous byte_is_unambiguous).one x y piece more rest
      other h.form k.form e;
}

-- pieces of equal length in front of equal bytes
pub same_front : (xs ys rest other : List ℕ) → length xs ≡ length ys → xs ++ rest ≡ ys ++ other → Same xs ys rest other
same_front [] [] rest other long e = record { item = refl; after = e }
same_front [] (y ∷ ys) rest other long e = absurd (omega arith)
same_front (x ∷ xs) [] rest other long e = absurd (omega arith)
same_front (x ∷ xs) (y ∷ ys) rest other long e =
    let two = same_front xs ys rest other (omega arith) (same_tail e) in
    let heads : x ≡ y = same_head e in
    record { item = cc; after = two.after }

-- a spelling that is unambiguous before other bytes is unambiguous as a whole
pub unambiguous_whole : {A : Type 0} {P : A → List ℕ → Type 0} → IsUnambiguous P → IsUnambiguousWhole P
unambiguous_whole P_one = record { one = λ x y piece h k. (P_one.one x y piece piece [] [] h k refl).item }

-- contents after their sizes
pub sized_is_unambiguous : {A : Type 0} {P : A → List ℕ → Type 0} → IsUnambiguousWhole P → IsUnambiguous (λ (x : A). IsSized (P x))
sized_is_unambiguous {P = P} P_one = record {
  one = λ x y piece more rest other h k e.
      let size = first_same rest other (unsigned_is_unambiguous 32) h.form k.form e in
      let content = same_front h.content k.content rest other size.item
      (ap (λ (bytes : List ℕ). bytes ++ rest) (sym h.form.is_second) ∙ size.after ∙ ap (λ (bytes : List ℕ). bytes ++ other)
      k.form.is_second) in
      record { item = P_one.one x y k.content (subst (P x) content.item h.is_content) k.is_content; after = content.after };
}

-- sections of one identifier
pub section_is_unambiguous : {A : Type 0} {P : A → List ℕ → Type 0} (id : ℕ) → IsUnambiguousWhole P
    → IsUnambiguous (λ (x : A). IsSection id (P x))
section_is_unambiguous {P = P} id P_one = record {
  one = λ x y piece more rest other h k e.
      let one = first_same {x = id} {y = id} rest other byte_is_unambiguous h k e in
      (sized_is_unambiguous P_one).one x y h.second k.second rest other h.is_second k.is_second one.after;
}

digits_same : (count m n : ℕ) (piece more rest other : List ℕ) → IsLittleEndian count m piece → IsLittleEndian count n more
    → piece ++ rest ≡ more ++ other → Same m n rest other
unfolding IsLittleEndian
digits_same zero m n piece more rest other h k e = record {
  item = omega arith;
  after = ap (λ (bytes : List ℕ). bytes ++ rest) (sym h.1) ∙ e
      ∙ ap (λ (bytes : List ℕ). bytes ++ other) k.1;
}
digits_same (suc count) m n [] more rest other h k e = absurd h
digits_same (suc count) m n (a ∷ piece) [] rest other h k e = absurd k
digits_same (suc count) m n (a ∷ piece) (b ∷ more) rest other h k e =
    let heads : a ≡ b = same_head e in
    let deeper : Same h.0 k.0 rest other = digits_same count h.0 k.0 piece more rest other h.1 k.1 (same_tail e) in
    record { item = omega (arith, deeper.item); after = deeper.after }

-- numbers in a fixed number of bytes
pub digits_is_unambiguous : (count : ℕ) → IsUnambiguous (IsLittleEndian count)
digits_is_unambiguous count = record { one = digits_same count }

vector_same : (x y : ℤ) (piece more rest other : List ℕ) → IsVector x piece → IsVector y more → piece ++ rest ≡ more ++ other
    → Same x y rest other
vector_same (pos m) (pos n) piece more rest other h k e = let one = digits_same 16 m n piece more rest other h.1 k.1 e in
    record { item = ap pos one.item; after = one.after }
vector_same (pos m) (negsuc n) piece more rest other h k e = let one = digits_same 16 m (2 ^ 128 - 1 - n) piece more rest other h.1 k.1 e in
    absurd (omega (arith, one.item, h.0, k.0))
vector_same (negsuc m) (pos n) piece more rest other h k e = let one = digits_same 16 (2 ^ 128 - 1 - m) n piece more rest other h.1 k.1 e in
    absurd (omega (arith, one.item, h.0, k.0))
vector_same (negsuc m) (negsuc n) piece more rest other h k e = let one = digits_same 16 (2 ^ 128 - 1 - m) (2 ^ 128 - 1 - n) piece more rest
    other h.1 k.1 e in record { item = ap negsuc (omega (arith, one.item, h.0, k.0)); after = one.after }

-- vectors
pub vector_is_unambiguous : IsUnambiguous IsVector
vector_is_unambiguous = record { one = vector_same }
