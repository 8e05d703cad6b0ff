-- A map from the numbers of groups to where they are first.
use Rattle.std.proofs.Common.{◌≡◌, ℕ, zero, suc, ◌+◌, ◌-◌, ◌<◌, ◌≤◌, Bool, true, false, List, [], ◌∷◌, ◌++◌, Option, Some, None, Ordering}
use Rattle.std.proofs.Common.{Less, Equal, Greater, cond, length, refl, sym, ap, subst, ◌∙◌, arith, append_assoc}
use Rattle.std.specs.Prelude.{bytes_eq}
use Rattle.std.specs.Global.{Vec}
use Rattle.std.specs.BTreeMap.{BTreeMap, get_by, is_at, insert_entry}
use Rattle.std.specs.Map.{lookup}
use Rattle.std.specs.Cmp.Lexicographic.{slice_cmp}
use Rattle.std.specs.Ordering.{nat_cmp, is_eq, match_ordering}
use Rattle.std.proofs.lemmas.Map.Text.{is_eq-slice_cmp}
use Rattle.std.proofs.lemmas.Map.Lookups.{exact_bytes}
use Rattle.std.proofs.lemmas.Slice.Eq.{bytes_eq-Decides}
use Rattle.std.proofs.lemmas.Cmp.{nat_list_eq_equiv}
use Rattle.smith_check_types.specs.FirstGroups.{known_start, numbers_from}

-- what a test by the bytes of two lists says
pub same_bytes : (xs ys : List ℕ) → bytes_eq xs ys ≡ true → xs ≡ ys
same_bytes xs ys h = (bytes_eq-Decides xs ys).0 h

pub bytes_itself : (xs : List ℕ) → bytes_eq xs xs ≡ true
bytes_itself xs = (bytes_eq-Decides xs xs).1 refl

abbrev pub cmp_items : Vec ℕ → Vec ℕ → Ordering
cmp_items x y = slice_cmp nat_cmp x.items y.items

-- a map in which the numbers are found already
pub kept_start : (starts : BTreeMap (Vec ℕ) ℕ) (codes : List ℕ) (start : ℕ) → known_start starts codes ≡ Some start
    → (other : List ℕ) → known_start starts other ≡ cond (bytes_eq codes other) (Some start) (known_start starts other)
kept_start starts codes start known other =
    elim (bytes_eq codes other) as (λ b. bytes_eq codes other ≡ b → known_start starts other ≡ cond b (Some start)
    (known_start starts other)) [
      | true ↦ λ h. ap (known_start starts) (sym (same_bytes codes other h)) ∙ known
      | false ↦ λ h. refl
    ] refl

-- a key with these numbers
abbrev pub has_codes : List ℕ → Vec ℕ → Bool
has_codes codes key = is_eq (slice_cmp nat_cmp codes key.items)

has_same : (codes : List ℕ) (key : Vec ℕ) → has_codes codes key ≡ true → codes ≡ key.items
has_same codes key h = same_bytes codes key.items (sym (is_eq-slice_cmp codes key.items) ∙ h)

equal_case : {X : Type 0} (a b : Bool) (w x r : X) → a ≡ b → cond a w r ≡ cond b w (cond a x r)
equal_case true b w x r is = ap (λ c. cond c w x) is
equal_case false b w x r is = ap (λ c. cond c w r) is

greater_case : {X : Type 0} (a b : Bool) (w x l r : X) → (a ≡ true → b ≡ true → ⊥) → l ≡ cond b w r → cond a x l ≡ cond b w (cond a x r)
greater_case true true w x l r never is = absurd (never refl refl)
greater_case true false w x l r never is = refl
greater_case false b w x l r never is = is

cmp_itself : (xs ys : List ℕ) → xs ≡ ys → slice_cmp nat_cmp xs ys ≡ Greater → ⊥
cmp_itself xs ys same greater =
    let yes : is_eq (slice_cmp nat_cmp xs ys) ≡ true = is_eq-slice_cmp xs ys ∙ ap (λ zs. bytes_eq xs zs) (sym same) ∙ bytes_itself xs in
    let no : is_eq (slice_cmp nat_cmp xs ys) ≡ false = ap is_eq greater in
    cc (yes, no)

entries_after : (codes : List ℕ) (k : Vec ℕ) (v : ℕ) (es : List (Vec ℕ × ℕ))
    → lookup (has_codes codes) (insert_entry cmp_items es k v) ≡ cond (has_codes codes k) (Some v) (lookup (has_codes codes) es)
entries_after codes k v [] = refl
entries_after codes k v (e ∷ es) =
    let find : List (Vec ℕ × ℕ) → Option ℕ = lookup (has_codes codes) in
    elim (cmp_items k e.0) as (λ o. cmp_items k e.0 ≡ o
    → lookup (has_codes codes) (match_ordering o ((k, v) ∷ e ∷ es) ((e.0, v) ∷ es) (e ∷ insert_entry cmp_items es k v))
    ≡ cond (has_codes codes k) (Some v) (cond (has_codes codes e.0) (Some e.1) (lookup (has_codes codes) es))) [
      | Less ↦ λ h. refl
      | Equal ↦ λ h.
          let same : k.items ≡ e.0.items = exact_bytes k.items e.0.items h in
          let test : has_codes codes e.0 ≡ has_codes codes k = ap (λ items. is_eq (slice_cmp nat_cmp codes items)) (sym same) in
          equal_case (has_codes codes e.0) (has_codes codes k) (Some v) (Some e.1) (lookup (has_codes codes) es) test
      | Greater ↦ λ h.
          greater_case (has_codes codes e.0) (has_codes codes k) (Some v) (Some e.1) _ (lookup (has_codes codes) es)
          (λ a b. cmp_itself k.items e.0.items (sym (has_same codes k b) ∙ has_same codes e.0 a) h)
          (entries_after codes k v es)
    ] refl

-- a map to which numbers are added
pub added_start : (old new : BTreeMap (Vec ℕ) ℕ) (k : Vec ℕ) (v : ℕ) → new.entries ≡ insert_entry cmp_items old.entries k v
    → (other : List ℕ) → known_start new other ≡ cond (bytes_eq k.items other) (Some v) (known_start old other)
added_start old new k v is other =
    ap (lookup (has_codes other)) is ∙ entries_after other k v old.entries
    ∙ ap (λ b. cond b (Some v) (known_start old other)) (is_eq-slice_cmp other k.items ∙ nat_list_eq_equiv.symm other k.items)

-- one more number
pub numbers-next : (start count : ℕ) → numbers_from start count ++ (start + count) ∷ [] ≡ numbers_from start (suc count)
numbers-next start zero = let none : start + 0 ≡ start = omega arith in rw none refl
numbers-next start (suc count) =
    let later : start + suc count ≡ (start + 1) + count = omega arith in
    rw later (ap (λ (l : List ℕ). start ∷ l) (numbers-next (start + 1) count))

pub numbers_turn : (old now new : List ℕ) (start index : ℕ) → start ≤ index → new ≡ now ++ index ∷ []
    → now ≡ old ++ numbers_from start (index - start) → new ≡ old ++ numbers_from start (index + 1 - start)
numbers_turn old now new start index past is was =
    let at : start + (index - start) ≡ index = omega (arith, past) in
    let next : suc (index - start) ≡ index + 1 - start = omega (arith, past) in
    is ∙ ap (λ (l : List ℕ). l ++ index ∷ []) was ∙ append_assoc old (numbers_from start (index - start)) (index ∷ [])
    ∙ ap (λ (l : List ℕ). old ++ l)
    (ap (λ (n : ℕ). numbers_from start (index - start) ++ n ∷ []) (sym at) ∙ numbers-next start (index - start) ∙ ap (numbers_from start)
    next)
