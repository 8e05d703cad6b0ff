-- A kebab name satisfies IsKebab, also with digits appended.
use Rattle.std.proofs.Common.{◌≡◌, ◌≤◌, ◌<◌, ◌⊎◌, inl, inr, ℕ, zero, suc, ◌+◌, ◌-◌, ◌/◌, ◌%◌, ◌||◌, Bool, true, false, eqb, ltb, List, []}
use Rattle.std.proofs.Common.{◌∷◌, ◌++◌, length, get_or, refl, sym, ◌∙◌, arith, below_more, length-append, append_assoc, min, All, subst}
use Rattle.std.proofs.lemmas.List.{get_or_push, get_or_past, append-nil}
use Rattle.std.proofs.lemmas.List.Elements.{All-nil, All-cons, All-head, All-tail}
use Rattle.std.proofs.lemmas.Nat.{mod_below}
use Rattle.std.specs.Fmt.{digit_glyph, digits_onto, digits, decimal}
use Rattle.std.specs.HashSet.{HashSet, hash_set_len}
use Rattle.std.specs.declared.string.String.{String}
use Rattle.std.specs.declared.alloc.Global.{Global}
use Rattle.std.proofs.Math.ListN.{get_or-append}
use Rattle.std.proofs.lemmas.Bool.{ltb-true, ltb-false, eqb-false, lt-ltb}
use Rattle.smith_bytes.specs.Draws.{range_at, len_at}
use Rattle.smith_bytes.specs.Names.{with_copies, IsMadeNew}
use Rattle.smith_bytes.proofs.DrawnLemmas.{range_within}
use Rattle.smith_bytes.proofs.GrownLemmas.{cond_both}
use Rattle.smith_bytes.specs.Kebab.{dash, letter, is_open, character, character_at, characters_at, closed, kebab_at, IsLetter, IsDigit}
use Rattle.smith_bytes.specs.Kebab.{IsLetterOrDigit, IsKebab}

-- c may follow name in a kebab name
pub record IsNext (name : List ℕ) (c : ℕ) : Type 0 where
  pub first : length name ≡ 0 → IsLetter c
  pub allowed : IsLetterOrDigit c ⊎ (c ≡ dash)
  pub after_dash : get_or name (length name - 1) 0 ≡ dash → IsLetterOrDigit c

neither : (a b : Bool) → (a || b) ≡ false → (a ≡ false) × (b ≡ false)
neither true b e = absurd cc
neither false true e = absurd cc
neither false false e = (refl, refl)

not_open : (name : List ℕ) → is_open name ≡ false → (0 < length name) × (get_or name (length name - 1) 0 ≡ dash → ⊥)
not_open name shut =
    let parts = neither (eqb (length name) 0) (eqb (get_or name (length name - 1) 0) dash) shut in
    let some = eqb-false (length name) 0 parts.0 in
    (omega arith, eqb-false (get_or name (length name - 1) 0) dash parts.1)

next_by : (name : List ℕ) (n : ℕ) (low mid empty opened : Bool) → n ≤ 36 → ltb n 26 ≡ low → ltb n 36 ≡ mid → eqb (length name) 0 ≡ empty
    → is_open name ≡ opened → IsNext name (character name n)
next_by name n true mid empty opened few l m e o =
    let below = ltb-true n 26 l in
    rw l (record {
      first = λ _. (omega arith, omega arith);
      allowed = inl (inl (omega arith, omega arith));
      after_dash = λ _. inl (omega arith, omega arith);
    })
next_by name n false true true opened few l m e o =
    let above = ltb-false n 26 l in
    let below = ltb-true n 36 m in
    rw (l, m, e) (record {
      first = λ _. (omega arith, omega arith);
      allowed = inl (inl (omega arith, omega arith));
      after_dash = λ _. inl (omega arith, omega arith);
    })
next_by name n false true false opened few l m e o =
    let above = ltb-false n 26 l in
    let below = ltb-true n 36 m in
    rw (l, m, e) (record {
      first = λ none. absurd (eqb-false (length name) 0 e none);
      allowed = inl (inr (omega arith, omega arith));
      after_dash = λ _. inr (omega arith, omega arith);
    })
next_by name n false false empty true few l m e o =
    rw (l, m, o) (record {
      first = λ _. (omega arith, omega arith);
      allowed = inl (inl (omega arith, omega arith));
      after_dash = λ _. inl (omega arith, omega arith);
    })
next_by name n false false empty false few l m e o =
    let shut = not_open name o in
    rw (l, m, o) (record { first = λ none. absurd (omega arith); allowed = inr refl; after_dash = λ last. absurd (shut.1 last) })

pub character_next : (name : List ℕ) (n : ℕ) → n ≤ 36 → IsNext name (character name n)
character_next name n few = next_by name n (ltb n 26) (ltb n 36) (eqb (length name) 0) (is_open name) few refl refl refl refl

-- a prefix of a kebab name, which may end in a dash
pub record IsFront (name : List ℕ) : Type 0 where
  pub starts : 0 < length name → IsLetter (get_or name 0 0)
  pub characters : (i : ℕ) → i < length name → IsLetterOrDigit (get_or name i 0) ⊎ (get_or name i 0 ≡ dash)
  pub dashes : (i : ℕ) → i + 1 < length name → get_or name i 0 ≡ dash → IsLetterOrDigit (get_or name (i + 1) 0)

front_none : IsFront []
front_none = record {
  starts = λ some. absurd (omega arith);
  characters = λ i below. absurd (omega arith);
  dashes = λ i below. absurd
      (omega arith);
}

starts_push : (name : List ℕ) (c : ℕ) → IsFront name → IsNext name c → IsLetter (get_or (name ++ c ∷ []) 0 0)
starts_push [] c front next = next.first refl
starts_push (d ∷ name) c front next = front.starts (omega arith)

-- by cases on whether the dash at i was before the last character
dashes_push : (name : List ℕ) (c i : ℕ) (b : Bool) → IsFront name → IsNext name c → ltb (i + 1) (length name) ≡ b → i < length name
    → get_or (name ++ c ∷ []) i 0 ≡ dash → IsLetterOrDigit (get_or (name ++ c ∷ []) (i + 1) 0)
dashes_push name c i true front next inside below is =
    let later = ltb-true (i + 1) (length name) inside in
    rw (get_or-append name (c ∷ []) 0 (i + 1) later) (front.dashes i later (sym (get_or-append name (c ∷ []) 0 i below) ∙ is))
dashes_push name c i false front next inside below is =
    let over = ltb-false (i + 1) (length name) inside in
    let last : length name - 1 ≡ i = omega arith in
    rw (get_or_push name c 0 (i + 1) (omega arith)) (next.after_dash (rw last (sym (get_or-append name (c ∷ []) 0 i below) ∙ is)))

pub front_push : (name : List ℕ) (c : ℕ) → IsFront name → IsNext name c → IsFront (name ++ c ∷ [])
front_push name c front next = record {
  starts = λ _. starts_push name c front next;
  characters = λ i below. below_more (λ (k : ℕ). IsLetterOrDigit (get_or (name ++ c ∷ []) k 0) ⊎ (get_or (name ++ c ∷ []) k 0 ≡ dash))
      (length name)
      (λ k h. rw (get_or-append name (c ∷ []) 0 k h) (front.characters k h)) (rw (get_or_push name c 0 (length name) refl) next.allowed) i
      (omega (arith, length-append name (c ∷ [])));
  dashes = λ i below. dashes_push name c i (ltb (i + 1) (length name)) front next refl (omega (arith, length-append name (c ∷ [])));
}

-- by cases on whether i is the last index or past it
last_dash : {P : Type 0} (name : List ℕ) (i : ℕ) (b : Bool) → length name ≤ i + 1 → (get_or name (length name - 1) 0 ≡ dash → ⊥)
    → ltb i (length name) ≡ b → get_or name i 0 ≡ dash → P
last_dash name i true over shut inside is =
    let below = ltb-true i (length name) inside in
    let last : length name - 1 ≡ i = omega arith in
    absurd (shut (rw last is))
last_dash name i false over shut inside is = absurd (omega (arith, get_or_past name i 0 (ltb-false i (length name) inside), is))

-- by cases on whether the dash at i is before the last character
dashes_within : (name : List ℕ) (i : ℕ) (b : Bool) → IsFront name → (get_or name (length name - 1) 0 ≡ dash → ⊥) → ltb (i + 1) (length name)
    ≡ b → get_or name i 0 ≡ dash → IsLetterOrDigit (get_or name (i + 1) 0)
dashes_within name i true front shut inside is = front.dashes i (ltb-true (i + 1) (length name) inside) is
dashes_within name i false front shut inside is =
    let over = ltb-false (i + 1) (length name) inside in
    last_dash name i (ltb i (length name)) over shut refl is

-- a prefix that does not end in a dash is a kebab name
pub kebab_front : (name : List ℕ) → IsFront name → 0 < length name → (get_or name (length name - 1) 0 ≡ dash → ⊥) → IsKebab name
kebab_front name front some shut = record {
  starts = front.starts some;
  characters = front.characters;
  dashes = λ i. dashes_within name i
      (ltb (i + 1) (length name)) front shut refl;
}

not_dash : (c : ℕ) → IsLetterOrDigit c → c ≡ dash → ⊥
not_dash c (inl l) is = omega arith
not_dash c (inr d) is = omega arith

-- a prefix with a letter or a digit appended is a kebab name
kebab_plain : (name : List ℕ) (c : ℕ) → IsFront name → IsNext name c → IsLetterOrDigit c → IsKebab (name ++ c ∷ [])
kebab_plain name c front next plain =
    let len = length-append name (c ∷ []) in
    let last : length (name ++ c ∷ []) - 1 ≡ length name = omega arith in
    kebab_front (name ++ c ∷ []) (front_push name c front next) (omega arith)
    (λ is. not_dash c plain (sym (get_or_push name c 0 (length name) refl) ∙ (rw last at is)))

kebab_some : (name : List ℕ) → IsKebab name → length name ≡ 0 → ⊥
kebab_some name k none = omega (arith, get_or_past name 0 0 (omega arith), k.starts.0)

kebab_push : (name : List ℕ) (c : ℕ) → IsKebab name → IsLetterOrDigit c → IsKebab (name ++ c ∷ [])
kebab_push name c k plain = kebab_plain name c
    (record { starts = λ _. k.starts; characters = k.characters; dashes = λ i _. k.dashes i })
    (record { first = λ none. absurd (kebab_some name k none); allowed = inl plain; after_dash = λ _. plain }) plain

-- a kebab name with digits appended is one
kebab_digits : (name ds : List ℕ) → IsKebab name → All IsDigit ds → IsKebab (name ++ ds)
kebab_digits name [] k each = rw append-nil k
kebab_digits name (d ∷ ds) k each =
    rw (← append_assoc name (d ∷ []) ds) (kebab_digits (name ++ d ∷ []) ds (kebab_push name d k (inr (All-head IsDigit d ds each)))
    (All-tail IsDigit d ds each))

-- the decimal digits of a number are digits
digit_below : (d : ℕ) → d < 10 → IsDigit (digit_glyph false d)
digit_below d below = rw (lt-ltb d 10 below) (omega arith, omega arith)

all_digits_onto : (k n : ℕ) (ds : List ℕ) → All IsDigit ds → All IsDigit (digits_onto k 10 false n ds)
all_digits_onto zero n ds each = each
all_digits_onto (suc k) n ds each =
    let d = digit_glyph false (n % 10) in
    let more = All-cons IsDigit d ds (digit_below (n % 10) (mod_below n 10 (omega arith))) each in
    cond_both (λ (l : List ℕ). All IsDigit l) (eqb (n / 10) 0) (d ∷ ds) (digits_onto k 10 false (n / 10) (d ∷ ds)) more
    (all_digits_onto k (n / 10) (d ∷ ds) more)

decimal_digits : (n : ℕ) → All IsDigit (decimal n)
unfolding digits
decimal_digits n = all_digits_onto 64 n [] (All-nil IsDigit)

kebab_copies : (text ds : List ℕ) (n : ℕ) → IsKebab text → All IsDigit ds → IsKebab (with_copies text ds n)
kebab_copies text ds zero k each = k
kebab_copies text ds (suc n) k each = kebab_digits (with_copies text ds n) ds (kebab_copies text ds n k each) each

characters_front : (n : ℕ) (name bytes : List ℕ) → IsFront name → IsFront (characters_at n name bytes).0
unfolding characters_at character_at
characters_front zero name bytes front = front
characters_front (suc n) name bytes front =
    let k = range_at 0 36 bytes in
    let c = character name k.0 in
    characters_front n (name ++ c ∷ []) k.1 (front_push name c front (character_next name k.0 (range_within 0 36 bytes (omega arith))))

-- by cases on whether the prefix cannot end
closed_kebab : (name : List ℕ) (b : Bool) → is_open name ≡ b → IsFront name → IsKebab (closed name)
closed_kebab name true opened front =
    let a : IsLetter (letter 0) = (omega arith, omega arith) in
    rw opened (kebab_plain name (letter 0) front (record { first = λ _. a; allowed = inl (inl a); after_dash = λ _. inl a }) (inl a))
closed_kebab name false shut front = let end = not_open name shut in rw shut (kebab_front name front end.0 end.1)

kebab_shape : (max_size : ℕ) (bytes : List ℕ) → IsKebab (kebab_at max_size bytes).0
unfolding kebab_at
kebab_shape max_size bytes =
    let size = len_at bytes in
    let name = (characters_at (min size.0 max_size) [] size.1).0 in
    closed_kebab name (is_open name) refl (characters_front (min size.0 max_size) [] size.1 front_none)

-- a kebab name that was made new is a kebab name
pub kebab_new : {S : Type 0} (names : HashSet (String Global) S) (max_size : ℕ) (bytes text rest name : List ℕ) → kebab_at max_size bytes
    ≡ (text, rest) → IsMadeNew names text name → IsKebab name
kebab_new names max_size bytes text rest name drawn new =
    let shape : IsKebab text = subst (λ (r : List ℕ × List ℕ). IsKebab r.0) drawn (kebab_shape max_size bytes) in
    rw new.made (kebab_copies text (decimal (hash_set_len names)) new.copies shape (decimal_digits (hash_set_len names)))
