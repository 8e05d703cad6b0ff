-- The indices of marked types, as types are added.
use Rattle.smith_types.proofs.Common.{[], ap, append-nil, arith, Bool, false, get_or, if◌then◌else◌, inl, inr, IsTrue, length, List, None}
use Rattle.smith_types.proofs.Common.{Option, refl, shared, slice_get, Some, subst, SubType, suc, sym, true, zero, ℕ, ◌++◌, ◌+◌, ◌<◌, ◌↔◌}
use Rattle.smith_types.proofs.Common.{◌∙◌, ◌∷◌, ◌≡◌, ◌≤◌}
use Rattle.std.proofs.Common.{not, ◌&&◌}
use Rattle.smith_types.specs.declared.ground.Ground.{Ground}
use Rattle.smith_types.specs.declared.marked_types.MarkedTypes.{MarkedTypes}
use Rattle.smith_types.specs.Grounds.{below_at, is_shared_as, is_shared_in, is_shared_at, is_marked, indices_where, AreMarkedTypes}
use Rattle.smith_types.proofs.ListLemmas.{slice_get-grown, slice_get-last}
use Rattle.smith_types.proofs.MarkLemmas.{said_is}

-- a list of indices by another test that agrees
turn : (b c : Bool) (first : ℕ) (xs ys : List ℕ) → b ≡ c → xs ≡ ys → (if b then first ∷ xs else xs) ≡ (if c then first ∷ ys else ys)
turn b c first xs ys same rest = rw (same, rest) refl

pub where_same : (f g : ℕ → Bool) (first count : ℕ) → ((j : ℕ) → first ≤ j → j < first + count → f j ≡ g j) → indices_where f first count
    ≡ indices_where g first count
where_same f g first zero same = refl
where_same f g first (suc count) same =
    turn (f first) (g first) first _ _ (same first (omega arith) (omega arith))
    (where_same f g (first + 1) count (λ j least less. same j (omega (arith, least)) (omega (arith, less))))

-- one more index
more_turn : (b c : Bool) (first last : ℕ) (xs ys : List ℕ) → ys ≡ xs ++ (if c then last ∷ [] else []) → (if b then first ∷ ys else ys)
    ≡ (if b then first ∷ xs else xs) ++ (if c then last ∷ [] else [])
more_turn true c first last xs ys is = ap (λ (l : List ℕ). first ∷ l) is
more_turn false c first last xs ys is = is

pub where_more : (test : ℕ → Bool) (first count : ℕ) → indices_where test first (suc count) ≡ indices_where test first count ++
    (if test (first + count) then (first + count) ∷ [] else [])
where_more test first zero =
    let here : first ≡ first + 0 = omega arith in
    ap (λ (n : ℕ). if test n then n ∷ [] else []) here
where_more test first (suc count) =
    let here : first + 1 + count ≡ first + suc count = omega arith in
    more_turn (test first) (test (first + suc count)) first (first + suc count) _ _
    (where_more test (first + 1) count ∙ ap (λ (n : ℕ). indices_where test (first + 1) count ++ (if test n then n ∷ [] else [])) here)

pub one_with : (test : ℕ → Bool) (count : ℕ) (b : Bool) → test count ≡ b → indices_where test 0 (count + 1) ≡ indices_where test 0 count ++
    (if b then count ∷ [] else [])
one_with test count b is =
    let next : count + 1 ≡ suc count = omega arith in
    let here : 0 + count ≡ count = omega arith in
    rw next (where_more test 0 count ∙ ap (λ (n : ℕ). indices_where test 0 count ++ (if test n then n ∷ [] else [])) here
    ∙ ap (λ (c : Bool). indices_where test 0 count ++ (if c then count ∷ [] else [])) is)

pub one_passes : (test : ℕ → Bool) (count : ℕ) → test count ≡ true → indices_where test 0 (count + 1) ≡ indices_where test 0 count ++ count
    ∷ []
one_passes test count on = one_with test count true on

pub one_fails : (test : ℕ → Bool) (count : ℕ) → test count ≡ false → indices_where test 0 (count + 1) ≡ indices_where test 0 count
one_fails test count off = one_with test count false off ∙ append-nil _

-- at most as many indices as there are
short_turn : (b : Bool) (first count : ℕ) (xs : List ℕ) → length xs ≤ count → length (if b then first ∷ xs else xs) ≤ suc count
short_turn true first count xs le = omega (arith, le)
short_turn false first count xs le = omega (arith, le)

pub where_short : (test : ℕ → Bool) (first count : ℕ) → length (indices_where test first count) ≤ count
where_short test first zero = omega arith
where_short test first (suc count) = short_turn (test first) first count _ (where_short test (first + 1) count)

-- the type at an index exists
pub stands : (types : List SubType) (j : ℕ) → j < length types → (t : SubType) × (slice_get types j ≡ Some t)
stands [] j inside = absurd (omega arith)
stands (t ∷ types) zero inside = (t, refl)
stands (t ∷ types) (suc j) inside = stands types j (omega arith)

-- the type at an index, as the code reads it
pub shared_read : (types : List SubType) (is_shared : Bool) (j : ℕ) (t : SubType) → slice_get types j ≡ Some t
    → is_shared_at types is_shared j ≡ is_shared_as is_shared t
shared_read types is_shared j t at = ap (λ (o : Option SubType). is_shared_in is_shared o) at

-- whether a type is marked, as the code reads it
pub marked_read : (types : List SubType) (grounds : List Ground) (s : Bool) (j : ℕ) (t : SubType) (ground d : Ground) (r : Bool)
    → slice_get types j ≡ Some t → j < length grounds → ground ≡ get_or grounds j d → r ≡ (ground.below && is_shared_as s t)
    → is_marked types grounds s j ≡ r
marked_read types grounds s j t ground d r at inside read is =
    ap (λ (b : Bool). b && is_shared_at types s j) (said_is (λ (g : Ground). g.below) grounds j ground d inside read)
    ∙ ap (λ (b : Bool). ground.below && b) (shared_read types s j t at) ∙ sym is

-- the indices of the types before the last, seen with the last
front_same : (types : List SubType) (t : SubType) (grounds : List Ground) (s : Bool) (j : ℕ) → j < length types
    → is_marked (types ++ t ∷ []) grounds s j ≡ is_marked types grounds s j
front_same types t grounds s j inside =
    let (u, at) = stands types j inside in
    ap (λ (b : Bool). below_at grounds j && b) (shared_read (types ++ t ∷ []) s j u (slice_get-grown types (t ∷ []) j u at)
    ∙ sym (shared_read types s j u at))

last_is : (types : List SubType) (t : SubType) (grounds : List Ground) (s own : Bool) → below_at grounds (length types) ≡ own
    → is_marked (types ++ t ∷ []) grounds s (length types) ≡ (own && is_shared_as s t)
last_is types t grounds s own is =
    ap (λ (b : Bool). b && is_shared_at (types ++ t ∷ []) s (length types)) is ∙ ap (λ (b : Bool). own && b)
    (shared_read (types ++ t ∷ []) s (length types) t (slice_get-last types t))

grown_front : (types : List SubType) (t : SubType) (grounds : List Ground) (s : Bool)
    → indices_where (is_marked (types ++ t ∷ []) grounds s) 0 (length types) ≡ indices_where (is_marked types grounds s) 0 (length types)
grown_front types t grounds s = where_same (is_marked (types ++ t ∷ []) grounds s) (is_marked types grounds s) 0 (length types)
    (λ j least less. front_same types t grounds s j (omega (arith, less)))

last_kept : (types : List SubType) (t : SubType) (grounds : List Ground) (s own : Bool) (marked : List ℕ) → below_at grounds (length types)
    ≡ own → (own && is_shared_as s t) ≡ false → marked ≡ indices_where (is_marked types grounds s) 0 (length types)
    → marked ≡ indices_where (is_marked (types ++ t ∷ []) grounds s) 0 (length types + 1)
last_kept types t grounds s own marked is off listed =
    listed ∙ sym (grown_front types t grounds s) ∙ sym (one_fails (is_marked (types ++ t ∷ []) grounds s) (length types)
    (last_is types t grounds s own is ∙ off))

last_pushed : (types : List SubType) (t : SubType) (grounds : List Ground) (s own : Bool) (marked : List ℕ)
    → below_at grounds (length types) ≡ own → (own && is_shared_as s t) ≡ true → marked ≡ indices_where (is_marked types grounds s) 0
    (length types) → marked ++ length types ∷ [] ≡ indices_where (is_marked (types ++ t ∷ []) grounds s) 0 (length types + 1)
last_pushed types t grounds s own marked is on listed =
    ap (λ (l : List ℕ). l ++ length types ∷ []) (listed ∙ sym (grown_front types t grounds s))
    ∙ sym (one_passes (is_marked (types ++ t ∷ []) grounds s) (length types) (last_is types t grounds s own is ∙ on))

-- the last type is not marked
pub marked_kept : (types : List SubType) (t : SubType) (grounds : List Ground) (own : Bool) (marked : MarkedTypes)
    → below_at grounds (length types) ≡ own → own ≡ false → AreMarkedTypes types grounds (length types) marked
    → AreMarkedTypes (types ++ t ∷ []) grounds (length types + 1) marked
marked_kept types t grounds own marked is off h = record {
  plain = last_kept types t grounds false own marked.plain.items is (rw off refl) h.plain;
  shared = last_kept types t grounds true own marked.shared.items is (rw off refl) h.shared;
}

-- the last type is marked
pushed_by : (types : List SubType) (t : SubType) (grounds : List Ground) (marked pushed : MarkedTypes) (b : Bool)
    → below_at grounds (length types) ≡ true → shared t ≡ b → pushed.plain.items ≡ marked.plain.items ++
    (if b then [] else length types ∷ [])
    → pushed.shared.items ≡ marked.shared.items ++ (if b then length types ∷ [] else [])
    → AreMarkedTypes types grounds (length types) marked → AreMarkedTypes (types ++ t ∷ []) grounds (length types + 1) pushed
pushed_by types t grounds marked pushed true is on plain all h = record {
  plain = plain ∙ append-nil _ ∙ last_kept types t grounds false true marked.plain.items is (rw on refl) h.plain;
  shared = all ∙ last_pushed types t grounds true true marked.shared.items is on h.shared;
}
pushed_by types t grounds marked pushed false is off plain all h = record {
  plain = plain ∙ last_pushed types t grounds false true marked.plain.items is (rw off refl) h.plain;
  shared = all ∙ append-nil _ ∙ last_kept types t grounds true true marked.shared.items is off h.shared;
}

pub marked_pushed : (types : List SubType) (t : SubType) (grounds : List Ground) (own : Bool) (index : ℕ) (marked pushed : MarkedTypes)
    → below_at grounds (length types) ≡ own → own ≡ true → index ≡ length types → pushed.plain.items ≡ marked.plain.items ++
    (if shared t then [] else index ∷ [])
    → pushed.shared.items ≡ marked.shared.items ++ (if shared t then index ∷ [] else [])
    → AreMarkedTypes types grounds (length types) marked → AreMarkedTypes (types ++ t ∷ []) grounds (length types + 1) pushed
marked_pushed types t grounds own index marked pushed is on last plain all h =
    pushed_by types t grounds marked pushed (shared t) (is ∙ on) refl (rw last at plain) (rw last at all) h

-- there is room for one more index
pub list_fits : (types : List SubType) (grounds : List Ground) (s : Bool) (items : List ℕ) (len capacity : ℕ) → len ≡ length items
    → items ≡ indices_where (is_marked types grounds s) 0 (length types) → length types + 1 ≤ capacity → len < capacity
list_fits types grounds s items len capacity is listed room =
    let short = where_short (is_marked types grounds s) 0 (length types) in
    let same : length items ≡ length (indices_where (is_marked types grounds s) 0 (length types)) = ap (λ (l : List ℕ). length l) listed in
    omega (arith, is, same, short, room)

-- the marks of the types that existed before are unchanged
pub marked_unchanged : (types : List SubType) (old new : List Ground) (marked : MarkedTypes)
    → ((j : ℕ) → j < length types → below_at new j ≡ below_at old j) → AreMarkedTypes types old (length types) marked
    → AreMarkedTypes types new (length types) marked
marked_unchanged types old new marked same h =
    let each = λ (s : Bool). where_same (is_marked types old s) (is_marked types new s) 0 (length types)
    (λ j least less. ap (λ (b : Bool). b && is_shared_at types s j) (sym (same j (omega (arith, less))))) in
    record { plain = h.plain ∙ each false; shared = h.shared ∙ each true }

-- the same indices elsewhere
pub marked_moved : (types : List SubType) (grounds : List Ground) (count : ℕ) (old new : MarkedTypes) → new.plain.items ≡ old.plain.items
    → new.shared.items ≡ old.shared.items → AreMarkedTypes types grounds count old → AreMarkedTypes types grounds count new
marked_moved types grounds count old new plain all h = record { plain = plain ∙ h.plain; shared = all ∙ h.shared }

-- no types have no indices
pub none_marked : (types : List SubType) (grounds : List Ground) (marked : MarkedTypes) → types ≡ [] → marked.plain.items ≡ []
    → marked.shared.items ≡ [] → AreMarkedTypes types grounds (length types) marked
none_marked types grounds marked none plain all = rw none (record { plain = plain; shared = all })
