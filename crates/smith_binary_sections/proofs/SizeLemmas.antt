-- The most bytes that spellings have.
use Rattle.smith_binary_sections.proofs.Common.{[], ap, arith, Each, inr, Is, IsList, Joined, length, List, subst, sym, ℕ, ◌^◌, ◌∷◌, ◌≡◌}
use Rattle.std.proofs.Common.{inl, ◌*◌, ◌++◌, ◌+◌, ◌-◌, ◌<◌, ◌≤◌}
use Rattle.std.proofs.Common.{length-append}
use Rattle.std.proofs.lemmas.List.Elements.{All-from_recursion}
use Rattle.smith_binary.specs.Numbers.{IsUnsigned}
use Rattle.smith_binary.specs.Pieces.{IsSized}
use Rattle.smith_binary_sections.specs.Long.{IsLongContent, IsLongList, IsLongSection}

-- a spelling has this number of bytes or fewer
abbrev pub AtMost : ℕ → (List ℕ → Type 0) → Type 0
AtMost n Spells = (piece : List ℕ) → Spells piece → length piece ≤ n

-- an integer has few bytes
few_bytes : (bits n : ℕ) (piece : List ℕ) → IsUnsigned bits n piece → 7 * length piece ≤ bits + 7
unfolding IsUnsigned
few_bytes bits n [] h = absurd h
few_bytes bits n (byte ∷ []) h = omega arith
few_bytes bits n (byte ∷ next ∷ piece) h =
    let rest : 7 * length (next ∷ piece) ≤ (bits - 7) + 7 = few_bytes (bits - 7) h.0 (next ∷ piece) h.1 in
    let room : 7 < bits = h.5 in
    omega arith

pub number_within : (n : ℕ) → AtMost 5 (IsUnsigned 32 n)
number_within n piece h = let few = few_bytes 32 n piece h in omega (arith, few)

pub bytes_within : (bytes : List ℕ) → AtMost (length bytes) (Is bytes)
bytes_within bytes piece h = let same : length piece ≡ length bytes = ap length h in omega (arith, same)

pub joined_within : {A B : List ℕ → Type 0} (m n : ℕ) → AtMost m A → AtMost n B → AtMost (m + n) (Joined A B)
joined_within m n one other piece h =
    let whole : length piece ≡ length (h.first ++ h.second) = ap length h.whole in
    omega (arith, whole, length-append h.first h.second, one h.first h.is_first, other h.second h.is_second)

-- a list of no items, and of one
pub none_within : {A : Type 0} (Item : A → List ℕ → Type 0) → AtMost 5 (IsList Item [])
unfolding Each
none_within Item = joined_within 5 0 (number_within 0) (bytes_within [])

pub one_within : {A : Type 0} (Item : A → List ℕ → Type 0) (x : A) (n : ℕ) → AtMost n (Item x) → AtMost (5 + (n + 0)) (IsList Item (x ∷ []))
unfolding Each
one_within Item x n few = joined_within 5 (n + 0) (number_within 1) (joined_within n 0 few (bytes_within []))

pub sized_within : {Content : List ℕ → Type 0} (n : ℕ) → AtMost n Content → AtMost (5 + n) (IsSized Content)
sized_within n few piece h =
    let content : length h.content ≤ n = few h.content h.is_content in
    let form : length piece ≤ 5 + length h.content = joined_within 5 (length h.content) (number_within (length h.content))
    (bytes_within h.content) piece h.form in
    omega (arith, content, form)

-- a content of few bytes is not too long
pub not_long : {Content : List ℕ → Type 0} (n : ℕ) → n < 2 ^ 32 → AtMost n Content → IsLongContent Content → ⊥
not_long n low few h = omega (arith, low, few h.piece h.spelled, h.long)

-- a section of no item, and of one
pub no_long_items : {A : Type 0} (IsLong : A → Type 0) → IsLongList IsLong [] → ⊥
no_long_items IsLong (inl many) = omega (arith, many)
no_long_items IsLong (inr some) = omega (arith, some.2)

pub one_long_item : {A : Type 0} (IsLong : A → Type 0) (x : A) → (IsLong x → ⊥) → IsLongList IsLong (x ∷ []) → ⊥
one_long_item IsLong x short (inl many) = omega (arith, many)
one_long_item IsLong x short (inr (k, y, inside, is, long)) = All-from_recursion (λ z. IsLong z → ⊥) (x ∷ []) (short, tt) k y inside
    (subst IsLong (sym is) long)

pub no_long_section : {A : Type 0} (Item : A → List ℕ → Type 0) (IsLong : A → Type 0) → IsLongSection Item IsLong [] → ⊥
no_long_section Item IsLong (inl long) = no_long_items IsLong long
no_long_section Item IsLong (inr long) = not_long 5 (omega arith) (none_within Item) long

pub one_long_section : {A : Type 0} (Item : A → List ℕ → Type 0) (IsLong : A → Type 0) (x : A) (n : ℕ) → n < 2 ^ 31 → AtMost n (Item x)
    → (IsLong x → ⊥) → IsLongSection Item IsLong (x ∷ []) → ⊥
one_long_section Item IsLong x n low few short (inl long) = one_long_item IsLong x short long
one_long_section Item IsLong x n low few short (inr long) = not_long (5 + (n + 0)) (omega (arith, low)) (one_within Item x n few) long
