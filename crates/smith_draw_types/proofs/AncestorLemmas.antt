-- The proper supertypes of a type.
use Rattle.smith_draw_types.proofs.Common.{[], ap, arith, below_declared, Concrete, HeapType, IsBelow, IsBelow-trans, IsOrderly, length}
use Rattle.smith_draw_types.proofs.Common.{List, None, Option, refl, slice_get, slice_get_within, Some, subst, SubType, suc, sym, zero, ℕ}
use Rattle.smith_draw_types.proofs.Common.{◌-◌, ◌<◌, ◌∷◌, ◌≡◌, ◌≤◌}
use Rattle.std.specs.List.{AllByRecursion as ByRecursion}
use Rattle.smith_draw_types.specs.Offered.{supertype_of, supertype_at, ancestors_within, ancestors}

declares : (types : List SubType) (i s : ℕ) (o : Option SubType) → slice_get types i ≡ o → supertype_of o ≡ Some s → (t : SubType)
    × (slice_get types i ≡ Some t) × (t.supertype ≡ Some s)
declares types i s None at e = cc
declares types i s (Some t) at e = (t, at, e)

-- a type with a supertype exists
pub stands : (types : List SubType) (i s : ℕ) → supertype_at types i ≡ Some s → (t : SubType) × (slice_get types i ≡ Some t)
    × (t.supertype ≡ Some s)
stands types i s e = declares types i s (slice_get types i) refl e

-- a declared supertype precedes the type
pub supertype_before : (types : List SubType) → IsOrderly types → (i s : ℕ) → supertype_at types i ≡ Some s → s < i
supertype_before types orderly i s e = let (t, at, sup) = stands types i s e in (orderly.under i s t at sup).0

pub within_none : (types : List SubType) (n i : ℕ) → supertype_at types i ≡ None → ancestors_within n types i ≡ []
within_none types zero i e = refl
within_none types (suc n) i e = rw (e, ancestors_within) refl

within_turn : (types : List SubType) (n m i : ℕ) (o : Option ℕ) → supertype_at types i ≡ o
    → ((s : ℕ) → o ≡ Some s → ancestors_within n types s ≡ ancestors_within m types s) → ancestors_within (suc n) types i ≡ ancestors_within
    (suc m) types i
within_turn types n m i None e same = rw (e, ancestors_within) refl
within_turn types n m i (Some s) e same = rw (e, ancestors_within) (ap (λ xs. Concrete s ∷ xs) (same s refl))

at_root : (types : List SubType) → IsOrderly types → (i : ℕ) → i ≤ 0 → (o : Option ℕ) → supertype_at types i ≡ o
    → supertype_at types i ≡ None
at_root types orderly i le None e = e
at_root types orderly i le (Some s) e = let before = supertype_before types orderly i s e in absurd (omega arith)

-- a bound of the index of the type suffices
pub within_enough : (types : List SubType) → IsOrderly types → (n m i : ℕ) → i ≤ n → i ≤ m → ancestors_within n types i
    ≡ ancestors_within m types i
within_enough types orderly zero m i le le' = sym (within_none types m i (at_root types orderly i le (supertype_at types i) refl))
within_enough types orderly (suc n) zero i le le' = within_none types (suc n) i (at_root types orderly i le' (supertype_at types i) refl)
within_enough types orderly (suc n) (suc m) i le le' =
    within_turn types n m i (supertype_at types i) refl
    (λ s e. let before = supertype_before types orderly i s e in within_enough types orderly n m s (omega arith) (omega arith))

one_up : (types : List SubType) → IsOrderly types → (n i s : ℕ) → supertype_at types i ≡ Some s → i ≤ n → ancestors_within (suc n) types i
    ≡ Concrete s ∷ ancestors_within (suc n) types s
one_up types orderly n i s e le =
    let before = supertype_before types orderly i s e in
    let same = within_enough types orderly n (suc n) s (omega arith) (omega arith) in
    rw (e, ancestors_within) (ap (λ xs. Concrete s ∷ xs) same)

-- the proper supertypes of a type are its declared supertype and the proper supertypes of that
pub ancestors_up : (types : List SubType) → IsOrderly types → (i s : ℕ) → supertype_at types i ≡ Some s
    → ancestors types i ≡ Concrete s ∷ ancestors types s
unfolding ancestors
ancestors_up types orderly i s e =
    let (t, at, sup) = stands types i s e in
    let inside : i < length types = slice_get_within types i t at in
    let k : suc (length types - 1) ≡ length types = omega arith in
    subst (λ (n : ℕ). ancestors_within n types i ≡ Concrete s ∷ ancestors_within n types s) k
    (one_up types orderly (length types - 1) i s e (omega arith))

pub ancestors_none : (types : List SubType) (i : ℕ) → supertype_at types i ≡ None → ancestors types i ≡ []
unfolding ancestors
ancestors_none types i e = within_none types (length types) i e

raised : (types : List SubType) (i s : ℕ) (xs : List HeapType) → IsBelow types (Concrete i) (Concrete s)
    → ByRecursion (λ (h : HeapType). IsBelow types (Concrete s) h) xs → ByRecursion (λ (h : HeapType). IsBelow types (Concrete i) h) xs
raised types i s [] below h = tt
raised types i s (x ∷ xs) below h = (IsBelow-trans types below h.0, raised types i s xs below h.1)

above_turn : (types : List SubType) (n i : ℕ) (o : Option ℕ) → supertype_at types i ≡ o
    → ((s : ℕ) → ByRecursion (λ (h : HeapType). IsBelow types (Concrete s) h) (ancestors_within n types s))
    → ByRecursion (λ (h : HeapType). IsBelow types (Concrete i) h) (ancestors_within (suc n) types i)
above_turn types n i None e more = rw (e, ancestors_within) tt
above_turn types n i (Some s) e more =
    let (t, at, sup) = stands types i s e in
    let below = below_declared types i s t at sup in
    rw (e, ancestors_within) (below, raised types i s (ancestors_within n types s) below (more s))

within_above : (types : List SubType) (n i : ℕ) → ByRecursion (λ (h : HeapType). IsBelow types (Concrete i) h) (ancestors_within n types i)
within_above types zero i = tt
within_above types (suc n) i = above_turn types n i (supertype_at types i) refl (λ s. within_above types n s)

-- a type is a subtype of each of its proper supertypes
pub ancestors_above : (types : List SubType) (i : ℕ) → ByRecursion (λ (h : HeapType). IsBelow types (Concrete i) h) (ancestors types i)
unfolding ancestors
ancestors_above types i = within_above types (length types) i

each_turn : (P : HeapType → Type 0) (types : List SubType) (n i : ℕ) → ((j s : ℕ) → supertype_at types j ≡ Some s → P (Concrete s))
    → ((s : ℕ) → ByRecursion P (ancestors_within n types s)) → (o : Option ℕ) → supertype_at types i ≡ o
    → ByRecursion P (ancestors_within (suc n) types i)
each_turn P types n i each more None e = rw (e, ancestors_within) tt
each_turn P types n i each more (Some s) e = rw (e, ancestors_within) (each i s e, more s)

within_each : (P : HeapType → Type 0) (types : List SubType) → ((j s : ℕ) → supertype_at types j ≡ Some s → P (Concrete s)) → (n i : ℕ)
    → ByRecursion P (ancestors_within n types i)
within_each P types each zero i = tt
within_each P types each (suc n) i = each_turn P types n i each (λ s. within_each P types each n s) (supertype_at types i) refl

-- a property of each declared supertype holds for all proper supertypes
pub ancestors_each : (P : HeapType → Type 0) (types : List SubType) → ((j s : ℕ) → supertype_at types j ≡ Some s → P (Concrete s)) → (i : ℕ)
    → ByRecursion P (ancestors types i)
unfolding ancestors
ancestors_each P types each i = within_each P types each (length types) i
