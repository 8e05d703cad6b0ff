-- Making a pair of names new: the name grows at each iteration, and is new once it is longer than
-- each existing name.
use Rattle.smith_draw_imports.proofs.Common.{[], ap, arith, Bool, decimal, false, Import, length, length-append, List, refl, string_bytes}
use Rattle.smith_draw_imports.proofs.Common.{suc, sym, true, ℕ, ◌++◌, ◌+◌, ◌<◌, ◌∙◌, ◌∷◌, ◌≡◌, ◌≤◌}
use Rattle.std.proofs.Common.{max, ◌&&◌, ◌||◌}
use Rattle.std.proofs.Common.{below_more}
use Rattle.std.specs.Prelude.{not, if◌then◌else◌}
use Rattle.std.specs.Str.{bytes_eq}
use Rattle.std.specs.List.{list_any}
use Rattle.std.specs.HashSet.{HashSet, PutsKey, hash_set_len}
use Rattle.std.specs.declared.string.String.{String}
use Rattle.std.specs.declared.alloc.Global.{Global}
use Rattle.std.proofs.lemmas.Slice.Eq.{bytes_eq-Decides}
use Rattle.std.proofs.lemmas.List.Folds.{list_any-append}
use Rattle.std.proofs.lemmas.List.Sorted.{list_any-IsPermutation}
use Rattle.smith_bytes.specs.Names.{text_at, with_copies, new_name, IsNewName}
use Rattle.smith_bytes.proofs.NewNameLemmas.{new_name_is, new_by}
use Rattle.smith_draw_imports.specs.ImportNames.{has_names, is_taken, longest_name, import_name_at, is_pair, has_pair, HasPairs, AddsPair}

-- the length of the longest name of a pair
abbrev pub longest_pair : List (String Global × String Global) → ℕ
longest_pair [] = 0
longest_pair (pair ∷ pairs) = max (length (string_bytes pair.1)) (longest_pair pairs)

short_by : (from name : List ℕ) (pair : String Global × String Global) (pairs : List (String Global × String Global)) (a b : Bool)
    → bytes_eq name (string_bytes pair.1) ≡ b → ((a && b) || list_any (is_pair from name) pairs) ≡ true
    → (list_any (is_pair from name) pairs ≡ true → length name ≤ longest_pair pairs) → length name ≤ longest_pair (pair ∷ pairs)
short_by from name pair pairs true true same there later = omega (arith, ap length ((bytes_eq-Decides name (string_bytes pair.1)).0 same))
short_by from name pair pairs true false same there later = omega (arith, later there)
short_by from name pair pairs false b same there later = omega (arith, later there)

-- a name of a pair is no longer than the longest
pub present_short : (from name : List ℕ) (pairs : List (String Global × String Global)) → list_any (is_pair from name) pairs ≡ true
    → length name ≤ longest_pair pairs
present_short from name [] there = absurd cc
present_short from name (pair ∷ pairs) there =
    short_by from name pair pairs (bytes_eq from (string_bytes pair.0)) (bytes_eq name (string_bytes pair.1)) refl there
    (present_short from name pairs)

-- the name is the text followed by some copies, and with fewer copies it is taken
pub record IsMaking (taken : List ℕ → Bool) (digits text name : List ℕ) : Type 0 where
  pub some : 0 < length digits
  pub copies : ℕ
  pub made : name ≡ with_copies text digits copies
  pub needed : (n : ℕ) → n < copies → taken (with_copies text digits n) ≡ true

pub making_start : (taken : List ℕ → Bool) (digits text : List ℕ) → 0 < length digits → IsMaking taken digits text text
making_start taken digits text some = record { some = some; copies = 0; made = refl; needed = λ n below. absurd (omega arith) }

pub making_more : {taken : List ℕ → Bool} {digits text name longer : List ℕ}
    → IsMaking taken digits text name → taken name ≡ true → longer ≡ name ++ digits → IsMaking taken digits text longer
making_more now there is_longer = record {
  some = now.some;
  copies = suc now.copies;
  made = is_longer ∙ rw now.made refl;
  needed = λ n below. below_more _ _ now.needed (rw now.made at there) n (omega arith);
}

pub making_done : {taken : List ℕ → Bool} {digits text name : List ℕ} → IsMaking taken digits text name → taken name ≡ false
    → IsNewName taken digits text name
making_done now new = record { some = now.some; copies = now.copies; made = now.made; fresh = new; needed = now.needed }

-- a set has one more pair after the insertion of a new one
pub pair_added : {S : Type 0} (old new : HashSet (String Global × String Global) S) (pair : String Global × String Global)
    (from name : List ℕ) (added : Bool)
    → string_bytes pair.0 ≡ from → string_bytes pair.1 ≡ name → has_pair old from (string_bytes pair.1) ≡ false
    → added ≡ not (has_pair old (string_bytes pair.0) (string_bytes pair.1)) → PutsKey old new pair added
    → hash_set_len new ≡ hash_set_len old + (if added then 1 else 0)
    → AddsPair old new from name
pair_added old new pair from name false is_from is_name fresh is puts size =
    let there : not (has_pair old from (string_bytes pair.1)) ≡ false = rw is_from at (sym is) in
    let never : not (has_pair old from (string_bytes pair.1)) ≡ true = ap not fresh in
    absurd (cc)
pair_added old new pair from name true is_from is_name fresh is puts size = record {
  has = λ other_from other_name.
      rw (← is_from, ← is_name) (sym (list_any-IsPermutation (is_pair other_from other_name) (pair ∷ old.keys) new.keys puts));
  size = size;
}

short_name_by : (from name : List ℕ) (one : Import) (imports : List Import) (a b : Bool) → bytes_eq name one.name ≡ b
    → ((a && b) || is_taken imports from name) ≡ true
    → (is_taken imports from name ≡ true → length name ≤ longest_name imports) → length name ≤ longest_name (one ∷ imports)
short_name_by from name one imports true true same there later = omega (arith, ap length ((bytes_eq-Decides name one.name).0 same))
short_name_by from name one imports true false same there later = omega (arith, later there)
short_name_by from name one imports false b same there later = omega (arith, later there)

-- a taken name is no longer than the longest
taken_short : (from name : List ℕ) (imports : List Import) → is_taken imports from name ≡ true → length name ≤ longest_name imports
taken_short from name [] there = absurd cc
taken_short from name (one ∷ imports) there = short_name_by from name one imports (bytes_eq from one.«module») (bytes_eq name one.name) refl
    there (taken_short from name imports)

-- the name that is made new for an import is that of the definition
pub name_made : (imports : List Import) (from text name : List ℕ) (taken : List ℕ → Bool) (count : ℕ)
    → ((other : List ℕ) → taken other ≡ is_taken imports from other) → count ≡ length imports → IsNewName taken (decimal count) text name
    → new_name (is_taken imports from) (decimal (length imports)) (longest_name imports + 1) text ≡ name
name_made imports from text name taken count same size made =
    new_name_is (is_taken imports from) (decimal (length imports)) text name (longest_name imports)
    (λ other there. taken_short from other imports there) (new_by (is_taken imports from) same (rw size at made))

or_flip : (a b : Bool) → (a || b) ≡ (b || (a || false))
or_flip true true = refl
or_flip true false = refl
or_flip false true = refl
or_flip false false = refl

-- a set with one more pair has the pairs of one more import
pub knows_more : {S : Type 0} {old new : HashSet (String Global × String Global) S} {imports : List Import} (added : Import)
    → HasPairs old imports → AddsPair old new added.«module» added.name → HasPairs new (imports ++ added ∷ [])
knows_more {old = old} {new = new} {imports = imports} added known more = record {
  has = λ from name.
      let there = more.has from name in
      let was = known.has from name in
      there ∙ rw was (or_flip (has_names from name added) (is_taken imports from name))
      ∙ sym (list_any-append (has_names from name) imports (added ∷ []));
  size = more.size ∙ rw (known.size, length-append) refl;
}

-- the drawn name, if pairs must be distinct
pub name_is : (imports : List Import) (from bytes rest text name : List ℕ) (distinct : Bool) → distinct ≡ true
    → text_at 1000 bytes ≡ (text, rest) → new_name (is_taken imports from) (decimal (length imports)) (longest_name imports + 1) text ≡ name
    → import_name_at distinct imports from bytes ≡ (name, rest)
unfolding import_name_at
name_is imports from bytes rest text name distinct on read made = rw (on, read, made) refl
