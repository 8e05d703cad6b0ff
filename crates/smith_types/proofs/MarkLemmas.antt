-- Marks of types and their supertypes, as the code sets them along the path of supertypes.
use Rattle.smith_types.proofs.Common.{[], ap, arith, Bool, cases_eq, Concrete, false, get_or, inl, inr, IsTrue, length, length-set, List}
use Rattle.smith_types.proofs.Common.{None, none-some, not, Option, refl, same_Some, set, slice_get, slice_get-get_or, Some, subst, SubType}
use Rattle.smith_types.proofs.Common.{suc, sym, true, zero, ℕ, ◌++◌, ◌<◌, ◌∙◌, ◌∷◌, ◌≡◌}
use Rattle.smith_types.specs.declared.ground.Ground.{Ground}
use Rattle.smith_types.specs.Types.{IsOrderly}
use Rattle.smith_types.specs.Subtyping.{IsBelow, itself}
use Rattle.smith_types.specs.Grounds.{said_at, own_at, below_at, AreClosed, IsFrom, AreMarked, IsMarking}
use Rattle.smith_types.proofs.GrowthLemmas.{IsBelow-trans}
use Rattle.smith_types.proofs.PathLemmas.{below_declared}
use Rattle.smith_types.proofs.WalkLemmas.{Reaches, here, up, by_cases_from_below, path_along}

-- the flag of an entry
said_read : (flag : Ground → Bool) (grounds : List Ground) (i : ℕ) (ground : Ground) → slice_get grounds i ≡ Some ground
    → said_at flag grounds i ≡ flag ground
said_read flag [] i ground at = cc
said_read flag (x ∷ grounds) zero ground at = ap flag (same_Some x ground at)
said_read flag (x ∷ grounds) (suc i) ground at = said_read flag grounds i ground at

-- the flag of an entry, in the form of the code
pub said_is : (flag : Ground → Bool) (grounds : List Ground) (i : ℕ) (ground d : Ground) → i < length grounds → ground ≡ get_or grounds i d
    → said_at flag grounds i ≡ flag ground
said_is flag grounds i ground d inside read = said_read flag grounds i ground (slice_get-get_or grounds i d inside ∙ ap Some (sym read))

pub not_off : (b : Bool) → not b ≡ false → b ≡ true
not_off true e = refl
not_off false e = cc

-- an entry with a set flag exists
pub said_inside : (flag : Ground → Bool) (grounds : List Ground) (i : ℕ) → said_at flag grounds i ≡ true → i < length grounds
said_inside flag [] i on = cc
said_inside flag (x ∷ grounds) zero on = omega arith
said_inside flag (x ∷ grounds) (suc i) on = let inside : i < length grounds = said_inside flag grounds i on in omega (arith, inside)

-- one more entry
pub said_front : (flag : Ground → Bool) (grounds : List Ground) (x : Ground) (i : ℕ) → i < length grounds
    → said_at flag (grounds ++ x ∷ []) i ≡ said_at flag grounds i
said_front flag [] x i inside = absurd (omega (arith, inside))
said_front flag (y ∷ grounds) x zero inside = refl
said_front flag (y ∷ grounds) x (suc i) inside = said_front flag grounds x i (omega (arith, inside))

pub said_last : (flag : Ground → Bool) (grounds : List Ground) (x : Ground) (i : ℕ) → length grounds ≡ i
    → said_at flag (grounds ++ x ∷ []) i ≡ flag x
said_last flag [] x zero end = refl
said_last flag [] x (suc i) end = absurd (omega (arith, end))
said_last flag (y ∷ grounds) x zero end = absurd (omega (arith, end))
said_last flag (y ∷ grounds) x (suc i) end = said_last flag grounds x i (omega (arith, end))

-- a replaced entry
pub said_set : (flag : Ground → Bool) (grounds : List Ground) (s : ℕ) (x : Ground) → s < length grounds → said_at flag (set grounds s x) s
    ≡ flag x
said_set flag [] s x inside = absurd (omega (arith, inside))
said_set flag (y ∷ grounds) zero x inside = refl
said_set flag (y ∷ grounds) (suc s) x inside = said_set flag grounds s x (omega (arith, inside))

pub said_beside : (flag : Ground → Bool) (grounds : List Ground) (s : ℕ) (x : Ground) (i : ℕ) → (s ≡ i → ⊥)
    → said_at flag (set grounds s x) i ≡ said_at flag grounds i
said_beside flag [] s x i other = refl
said_beside flag (y ∷ grounds) zero x zero other = absurd (other refl)
said_beside flag (y ∷ grounds) zero x (suc i) other = refl
said_beside flag (y ∷ grounds) (suc s) x zero other = refl
said_beside flag (y ∷ grounds) (suc s) x (suc i) other = said_beside flag grounds s x i (λ same. other (ap suc same))

-- an entry replaced by one with the same flag
pub said_same : (flag : Ground → Bool) (grounds : List Ground) (s : ℕ) (x : Ground) (i : ℕ) → s < length grounds
    → flag x ≡ said_at flag grounds s → said_at flag (set grounds s x) i ≡ said_at flag grounds i
said_same flag grounds s x i inside is = elim (cases_eq s i) [
  | inl same ↦ subst (λ (m : ℕ). said_at flag (set grounds s x) m ≡ said_at flag grounds m) same (said_set flag grounds s x inside ∙ is)
  | inr other ↦ said_beside flag grounds s x i other
]

-- if the type at i is not j and reaches j, its declared supertype is below j
pub above_other : (types : List SubType) (i j : ℕ) (t : SubType) → slice_get types i ≡ Some t → (i ≡ j → ⊥) → Reaches types i j
    → (s : ℕ) × (t.supertype ≡ Some s) × IsBelow types (Concrete s) (Concrete j)
above_other types i j t at other here = absurd (other refl)
above_other types i j t at other (up {s = s} {t = u} at' sup reach) =
    let same : t ≡ u = same_Some t u (sym at ∙ at') in
    (s, ap (λ (x : SubType). x.supertype) same ∙ sup, path_along types reach)

-- an upper bound of the remaining steps along the path of supertypes
abbrev pub steps_left : Option ℕ → ℕ
steps_left None = 0
steps_left (Some index) = suc index

-- a step makes the remaining path shorter
steps_fewer : (s : ℕ) (above : Option ℕ) → ((r : ℕ) → above ≡ Some r → r < s) → steps_left above < suc s
steps_fewer s None less = omega arith
steps_fewer s (Some r) less = let lower : r < s = less r refl in omega (arith, lower)

pub steps_less : (types : List SubType) (s : ℕ) (u : SubType) (above : Option ℕ) → IsOrderly types → slice_get types s ≡ Some u
    → above ≡ Some s → steps_left u.supertype < steps_left above
steps_less types s u above orderly at is = rw is (steps_fewer s u.supertype (λ r up. (orderly.under s r u at up).0))

-- marks over orderly types, from a type upwards
module _ (types : List SubType) (orderly : IsOrderly types) (from : Option ℕ) (old : List Ground) where
  -- nothing is marked yet
  pub marking_begins : ((s : ℕ) → from ≡ Some s → (s < length types) × (s < length old)) → IsMarking types from from old old
  marking_begins stands = record {
    long = refl;
    own = λ j. refl;
    kept = λ j marks. marks;
    only = λ j marks. inl marks;
    almost = λ j above. inr above;
    next = λ s is. let (inside, entry) = stands s is in (inside, entry, (s, is, itself));
    before = λ s j is lower. refl;
  }

  -- a type is marked, and its supertype is next
  pub marking_goes_on : (grounds : List Ground) (s : ℕ) (u : SubType) (x : Ground) → x.own ≡ own_at grounds s → IsTrue x.below
      → slice_get types s ≡ Some u → IsMarking types from (Some s) old grounds → IsMarking types from u.supertype old (set grounds s x)
  marking_goes_on grounds s u x is_own marks at h =
      let (inside, entry, first) = h.next s refl in
      let (f, is_from, path) = first in
      let same_length : length grounds ≡ length old = h.long in
      let room : s < length grounds = omega (arith, entry, same_length) in
      let marked : below_at (set grounds s x) s ≡ true = said_set (λ (ground : Ground). ground.below) grounds s x room ∙ marks in
      let beside : (j : ℕ) → (s ≡ j → ⊥) → below_at (set grounds s x) j ≡ below_at grounds j =
      said_beside (λ (ground : Ground). ground.below) grounds s x in
      let lower : (r : ℕ) → u.supertype ≡ Some r → r < s = λ r is_up. (orderly.under s r u at is_up).0 in record {
        long = length-set grounds s x ∙ same_length;
        own = λ j. said_same (λ (ground : Ground). ground.own) grounds s x j room is_own ∙ h.own j;
        kept = λ j before. elim (cases_eq s j) [
          | inl same ↦ subst (λ (m : ℕ). below_at (set grounds s x) m ≡ true) same marked
          | inr other ↦ beside j other ∙ h.kept j before
        ];
        only = λ j now. elim (cases_eq s j) [
          | inl same ↦ inr (subst (IsFrom types from) same first)
          | inr other ↦ h.only j (sym (beside j other) ∙ now)
        ];
        almost = λ j above. elim (cases_eq s j) [
          | inl same ↦ inl (subst (λ (m : ℕ). below_at (set grounds s x) m ≡ true) same marked)
          | inr other ↦ elim (h.almost j above) [
            | inl now ↦ inl (beside j other ∙ now)
            | inr (r, is, below) ↦
                let one : r ≡ s = same_Some r s (sym is) in
                let on : IsBelow types (Concrete s) (Concrete j) = subst (λ (m : ℕ). IsBelow types (Concrete m) (Concrete j)) one below in
                inr (above_other types s j u at other (by_cases_from_below types orderly (Concrete s) (Concrete j) on))
          ]
        ];
        next = λ r is_up.
            let less : r < s = lower r is_up in (
              omega (arith, less, inside),
              omega (arith, less, entry),
              (f, is_from, IsBelow-trans types path (below_declared types s r u at is_up)),
            );
        before = λ r j is_up under.
            let less : r < s = lower r is_up in
            beside j (λ same. omega (arith, same, under, less)) ∙ h.before s j refl (omega (arith, under, less));
      }

  -- all supertypes of a type that was marked before are marked
  pub marking_stops : (grounds : List Ground) (s : ℕ) → IsTrue (below_at grounds s) → IsMarking types from (Some s) old grounds
      → AreClosed types old → AreMarked types from old grounds
  marking_stops grounds s marks h closed = record {
    long = h.long;
    own = h.own;
    below = λ j. (
      h.only j,
      λ either. elim either [
        | inl before ↦ h.kept j before
        | inr above ↦ elim (h.almost j above) [
          | inl now ↦ now
          | inr (r, is, below) ↦
              let one : r ≡ s = same_Some r s (sym is) in
              let on : IsBelow types (Concrete s) (Concrete j) = subst (λ (m : ℕ). IsBelow types (Concrete m) (Concrete j)) one below in
              h.kept j (closed.up s j on (sym (h.before s s refl (omega arith)) ∙ marks))
        ]
      ],
    );
  }

  -- without a further supertype, all types are marked
  pub marking_ends : (grounds : List Ground) (above : Option ℕ) → above ≡ None → IsMarking types from above old grounds
      → AreMarked types from old grounds
  marking_ends grounds above none h = record {
    long = h.long;
    own = h.own;
    below = λ j. (
      h.only j,
      λ either. elim either [
        | inl before ↦ h.kept j before
        | inr from_it ↦ elim (h.almost j from_it) [ inl now ↦ now | inr (r, is, below) ↦ absurd (none-some r (sym none ∙ is)) ]
      ],
    );
  }
