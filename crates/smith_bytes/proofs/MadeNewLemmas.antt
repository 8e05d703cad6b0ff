-- A name that is being made new grows at each turn, and is new once it is longer than every name in
-- the set.
use Rattle.std.proofs.Common.{◌≡◌, ℕ, suc, ◌+◌, ◌≤◌, ◌<◌, Bool, true, false, List, [], ◌∷◌, ◌++◌, length, max, refl, sym, ap, ◌||◌, not}
use Rattle.std.proofs.Common.{◌∙◌, arith, below_more, string_bytes}
use Rattle.std.specs.Prelude.{if◌then◌else◌}
use Rattle.std.specs.Str.{bytes_eq}
use Rattle.std.proofs.lemmas.Slice.Eq.{bytes_eq-Decides}
use Rattle.std.specs.List.{list_any}
use Rattle.std.specs.Fmt.{decimal}
use Rattle.std.specs.HashSet.{HashSet, contains_text, hash_set_len}
use Rattle.std.specs.declared.string.String.{String}
use Rattle.std.specs.declared.alloc.Global.{Global}
use Rattle.smith_bytes.specs.Names.{with_copies, IsMadeNew}

-- the length of the longest name
abbrev pub longest : List (String Global) → ℕ
longest [] = 0
longest (name ∷ names) = max (length (string_bytes name)) (longest names)

-- a text that is in the names is no longer than the longest, by cases on the first name
short_by : (text : List ℕ) (name : String Global) (names : List (String Global)) (b : Bool) → bytes_eq text (string_bytes name) ≡ b
    → (b || list_any (λ k. bytes_eq text (string_bytes k)) names) ≡ true
    → (list_any (λ k. bytes_eq text (string_bytes k)) names ≡ true → length text ≤ longest names) → length text ≤ longest (name ∷ names)
short_by text name names true same there later = omega (arith, ap length ((bytes_eq-Decides text (string_bytes name)).0 same))
short_by text name names false same there later = omega (arith, later there)

pub present_short : (text : List ℕ) (names : List (String Global)) → list_any (λ k. bytes_eq text (string_bytes k)) names ≡ true
    → length text ≤ longest names
present_short text [] there = absurd cc
present_short text (name ∷ names) there = short_by text name names (bytes_eq text (string_bytes name)) refl there (present_short text names)

-- name is the text followed by some copies, and with fewer copies it was not new
pub record IsMaking {S : Type 0} (names : HashSet (String Global) S) (text name : List ℕ) : Type 0 where
  pub copies : ℕ
  pub made : name ≡ with_copies text (decimal (hash_set_len names)) copies
  pub needed : (n : ℕ) → n < copies → contains_text names (with_copies text (decimal (hash_set_len names)) n) ≡ true

pub making_start : {S : Type 0} (names : HashSet (String Global) S) (text : List ℕ) → IsMaking names text text
making_start names text = record { copies = 0; made = refl; needed = λ n below. absurd (omega arith) }

pub making_more : {S : Type 0} {names : HashSet (String Global) S} {text name longer : List ℕ} {b : Bool} {count : ℕ}
    → IsMaking names text name → b ≡ contains_text names name → b ≡ true → count ≡ hash_set_len names → longer ≡ name ++ decimal count
    → IsMaking names text longer
making_more {text = text} now is there size is_longer = record {
  copies = suc now.copies;
  made = is_longer ∙ rw (size, now.made) refl;
  needed = λ n below. below_more _ _ now.needed (rw now.made at (sym is ∙ there)) n (omega arith);
}

pub making_done : {S : Type 0} {names : HashSet (String Global) S} {text name : List ℕ} {b : Bool}
    → IsMaking names text name → b ≡ contains_text names name → b ≡ false → IsMadeNew names text name
making_done now is new = record { copies = now.copies; made = now.made; fresh = sym is ∙ new; needed = now.needed }

no_sooner : {S : Type 0} {names : HashSet (String Global) S} {text first second : List ℕ} (a : IsMadeNew names text first)
    (b : IsMadeNew names text second) → a.copies < b.copies → ⊥
no_sooner {names = names} {first = first} a b sooner =
    let there : contains_text names first ≡ true = rw a.made (b.needed a.copies sooner) in
    cc (sym a.fresh ∙ there)

-- a text is made new in only one way
pub new_alone : {S : Type 0} {names : HashSet (String Global) S} {text first second : List ℕ} → IsMadeNew names text first
    → IsMadeNew names text second → first ≡ second
new_alone a b =
    let not_before = no_sooner a b in
    let not_after = no_sooner b a in
    let same : a.copies ≡ b.copies = omega arith in
    a.made ∙ (rw same (sym b.made))

-- the size of a set after an element that it did not have was added
pub added_size : {added there : Bool} (old new : ℕ) → new ≡ old + (if added then 1 else 0) → added ≡ not there → there ≡ false
    → new ≡ old + 1
added_size old new size is fresh = size ∙ rw (is, fresh) refl
