-- Subtyping of heap types by cases, as in the test, and its equivalence with the closure of the
-- steps.
use Rattle.smith_types.proofs.Common.{Abstract, AbstractHeapType, ap, arith, Bool, CompositeInnerType, Concrete, Exact, get_or, HeapType}
use Rattle.smith_types.proofs.Common.{IsTrue, kind, kind_of, length, List, None, none-some, refl, rules, same_Some, shared, slice_get}
use Rattle.smith_types.proofs.Common.{slice_get-get_or, slice_get_within, Some, subst, SubType, sym, ℕ, ◌<◌, ◌↔◌, ◌∙◌, ◌≡◌, ◌≤◌}
use Rattle.std.proofs.lemmas.Option.{slice_get_read}
use Rattle.smith_syntax.specs.Kinds.{bottom, bottom_of}
use Rattle.smith_types.specs.Types.{IsOrderly}
use Rattle.smith_types.specs.GroupedTypes.{HasDepth, root, deeper}
use Rattle.smith_types.specs.Subtyping.{IsStep, is_abstract_step, is_abstract_below, IsBelow, itself, by_step, IsInRange}
use Rattle.smith_types.proofs.GrowthLemmas.{IsBelow-trans}
use Rattle.smith_types.proofs.SpaceLemmas.{depth_alone}
use Rattle.smith_types.proofs.PathLemmas.{below_abstract, below_declared, below_kind, above_bottom, exact_above_bottom, exact_below}

-- a type is reached from another along declared supertypes
pub data Reaches (types : List SubType) : ℕ → ℕ → Type 0 where
  here : {i : ℕ} → Reaches types i i
  up : {i s j : ℕ} {t : SubType} → slice_get types i ≡ Some t → t.supertype ≡ Some s → Reaches types s j → Reaches types i j

-- the type at an index is a subtype of an abstract type
abbrev pub IsUnder : List SubType → ℕ → Bool → AbstractHeapType → Type 0
IsUnder types i r b = (t : SubType) × (slice_get types i ≡ Some t) × (shared t ≡ r) × IsTrue (is_abstract_below (kind t) b)

-- an abstract type is the bottom of the type at an index
abbrev pub IsBottomAt : List SubType → Bool → AbstractHeapType → ℕ → Type 0
IsBottomAt types s a j = (t : SubType) × (slice_get types j ≡ Some t) × (s ≡ shared t) × (a ≡ bottom t)

-- one heap type is a subtype of another, by cases
abbrev pub IsBelowByCases : List SubType → HeapType → HeapType → Type 0
IsBelowByCases types (Abstract s a) (Abstract r b) = (s ≡ r) × IsTrue (is_abstract_below a b)
IsBelowByCases types (Abstract s a) (Concrete j) = IsBottomAt types s a j
IsBelowByCases types (Abstract s a) (Exact j) = IsBottomAt types s a j
IsBelowByCases types (Concrete i) (Abstract r b) = IsUnder types i r b
IsBelowByCases types (Concrete i) (Concrete j) = Reaches types i j
IsBelowByCases types (Concrete i) (Exact j) = ⊥
IsBelowByCases types (Exact i) (Abstract r b) = IsUnder types i r b
IsBelowByCases types (Exact i) (Concrete j) = Reaches types i j
IsBelowByCases types (Exact i) (Exact j) = i ≡ j

-- the finite tables
below_itself : (a : AbstractHeapType) → IsTrue (is_abstract_below a a)
below_itself a = search rules

below_by_step : (a b c : AbstractHeapType) → IsTrue (is_abstract_step a b) → IsTrue (is_abstract_below b c) → IsTrue (is_abstract_below a c)
below_by_step a b c step below = search rules

no_step_to_bottom : (x : CompositeInnerType) (a : AbstractHeapType) → IsTrue (is_abstract_step a (bottom_of x)) → ⊥
no_step_to_bottom x a step = search rules

bottom_below_kind : (x : CompositeInnerType) (b : AbstractHeapType) → IsTrue (is_abstract_below (kind_of x) b)
    → IsTrue (is_abstract_below (bottom_of x) b)
bottom_below_kind x b below = search rules

kind_not_bottom : (x y : CompositeInnerType) → kind_of x ≡ bottom_of y → ⊥
kind_not_bottom x y same = search rules

bottoms_of_kind : (x y : CompositeInnerType) → kind_of x ≡ kind_of y → bottom_of x ≡ bottom_of y
bottoms_of_kind x y same = search rules

-- a type reached from another exists and has the same kind and sharedness
pub alike_along : (types : List SubType) → IsOrderly types → (i j : ℕ) (t : SubType) → Reaches types i j → slice_get types i ≡ Some t
    → (u : SubType) × (slice_get types j ≡ Some u) × (kind t ≡ kind u) × (shared t ≡ shared u)
alike_along types orderly i j t here at = (t, at, refl, refl)
alike_along types orderly i j t (up {s = s} {t = v} at' sup reach) at =
    let (before, alike) = orderly.under i s v at' sup in
    let inside : i < length types = slice_get_within types i t at in
    let stands = slice_get-get_or types s t (omega arith) in
    let like = alike _ stands in
    let same : t ≡ v = same_Some t v (sym at ∙ at') in
    let (u, at_end, kinds, shares) = alike_along types orderly s j _ reach stands in
    (u, at_end, ap kind same ∙ like.kind ∙ kinds, ap shared same ∙ like.shared ∙ shares)

-- the bottom of a type is the bottom of each type that it reaches
bottom_along : (types : List SubType) → IsOrderly types → (s : Bool) (x : AbstractHeapType) (j k : ℕ) → IsBottomAt types s x j
    → Reaches types j k → IsBottomAt types s x k
bottom_along types orderly s x j k (t, at, shares, bottoms) reach =
    let (u, at_end, kinds, alike) = alike_along types orderly j k t reach at in
    (u, at_end, shares ∙ alike, bottoms ∙ bottoms_of_kind t.composite_type.inner u.composite_type.inner kinds)

-- the bottom of a type is a subtype of the abstract supertypes of that type
bottom_under : (types : List SubType) (s q : Bool) (x z : AbstractHeapType) (j : ℕ) → IsBottomAt types s x j → IsUnder types j q z
    → (s ≡ q) × IsTrue (is_abstract_below x z)
bottom_under types s q x z j (t, at, shares, bottoms) (u, at', alike, below) =
    let same : t ≡ u = same_Some t u (sym at ∙ at') in (
      shares ∙ ap shared same ∙ alike,
      subst (λ y. IsTrue (is_abstract_below y z)) (sym (bottoms ∙ ap bottom same))
          (bottom_below_kind u.composite_type.inner z below),
    )

-- an abstract supertype of a declared supertype is one of the type itself
under_above : (types : List SubType) → IsOrderly types → (i j : ℕ) (q : Bool) (z : AbstractHeapType) (t : SubType)
    → slice_get types i ≡ Some t → t.supertype ≡ Some j → IsUnder types j q z → IsUnder types i q z
under_above types orderly i j q z t at sup (u, at', shares, below) =
    let like = (orderly.under i j t at sup).1 u at' in
    (t, at, like.shared ∙ shares, subst (λ y. IsTrue (is_abstract_below y z)) (sym like.kind) below)

-- a heap type is a subtype of itself
by_cases_itself : (types : List SubType) (a : HeapType) → IsBelowByCases types a a
by_cases_itself types (Abstract s a) = (refl, below_itself a)
by_cases_itself types (Concrete i) = here
by_cases_itself types (Exact i) = refl

-- a step can be prepended
by_cases_step : (types : List SubType) → IsOrderly types → (a b c : HeapType) → IsStep types a b → IsBelowByCases types b c
    → IsBelowByCases types a c
by_cases_step types o (Abstract s x) (Abstract r y) (Abstract q z) (p, step) (p', below) = (p ∙ p', below_by_step x y z step below)
by_cases_step types o (Abstract s x) (Abstract r y) (Concrete k) (p, step) (u, at, p', bottoms) =
    absurd (no_step_to_bottom u.composite_type.inner x (subst (λ w. IsTrue (is_abstract_step x w)) bottoms step))
by_cases_step types o (Abstract s x) (Abstract r y) (Exact k) (p, step) (u, at, p', bottoms) =
    absurd (no_step_to_bottom u.composite_type.inner x (subst (λ w. IsTrue (is_abstract_step x w)) bottoms step))
by_cases_step types o (Abstract s x) (Concrete j) (Abstract q z) step below = bottom_under types s q x z j step below
by_cases_step types o (Abstract s x) (Concrete j) (Concrete k) step reach = bottom_along types o s x j k step reach
by_cases_step types o (Abstract s x) (Exact j) (Abstract q z) step below = bottom_under types s q x z j step below
by_cases_step types o (Abstract s x) (Exact j) (Concrete k) step reach = bottom_along types o s x j k step reach
by_cases_step types o (Abstract s x) (Exact j) (Exact k) step same = subst (IsBottomAt types s x) same step
by_cases_step types o (Concrete i) (Abstract r y) (Abstract q z) (t, at, p, kinds) (p', below) =
    (t, at, p ∙ p', subst (λ w. IsTrue (is_abstract_below w z)) (sym kinds) below)
by_cases_step types o (Concrete i) (Abstract r y) (Concrete k) (t, at, p, kinds) (u, at', p', bottoms) =
    absurd (kind_not_bottom t.composite_type.inner u.composite_type.inner (kinds ∙ bottoms))
by_cases_step types o (Concrete i) (Abstract r y) (Exact k) (t, at, p, kinds) (u, at', p', bottoms) =
    absurd (kind_not_bottom t.composite_type.inner u.composite_type.inner (kinds ∙ bottoms))
by_cases_step types o (Concrete i) (Concrete j) (Abstract q z) (t, at, sup) below = under_above types o i j q z t at sup below
by_cases_step types o (Concrete i) (Concrete j) (Concrete k) (t, at, sup) reach = up {t = t} at sup reach
by_cases_step types o (Exact i) (Concrete j) (Abstract q z) same below = subst (λ n. IsUnder types n q z) (sym same) below
by_cases_step types o (Exact i) (Concrete j) (Concrete k) same reach = subst (λ n. Reaches types n k) (sym same) reach
by_cases_step types o a b c step below = search rules

-- the closure, by cases
pub by_cases_from_below : (types : List SubType) → IsOrderly types → (a b : HeapType) → IsBelow types a b → IsBelowByCases types a b
by_cases_from_below types o a b itself = by_cases_itself types a
by_cases_from_below types o a c (by_step {b = b} step below) = by_cases_step types o a b c step (by_cases_from_below types o b c below)

pub path_along : (types : List SubType) {i j : ℕ} → Reaches types i j → IsBelow types (Concrete i) (Concrete j)
path_along types here = itself
path_along types (up {i = i} {s = s} {t = t} at sup reach) = IsBelow-trans types (below_declared types i s t at sup)
    (path_along types reach)

pub path_under : (types : List SubType) (i : ℕ) (r : Bool) (b : AbstractHeapType) → IsUnder types i r b
    → IsBelow types (Concrete i) (Abstract r b)
path_under types i r b (t, at, shares, below) = subst (λ q. IsBelow types (Concrete i) (Abstract q b)) shares
    (IsBelow-trans types (below_kind types i t at) (below_abstract types (shared t) (kind t) b below))

-- the cases, as a path
pub below_from_by_cases : (types : List SubType) (a b : HeapType) → IsBelowByCases types a b → IsBelow types a b
below_from_by_cases types (Abstract s x) (Abstract r y) (same, below) = subst (λ q. IsBelow types (Abstract s x) (Abstract q y)) same
    (below_abstract types s x y below)
below_from_by_cases types (Abstract s x) (Concrete j) (t, at, shares, bottoms) = above_bottom types s x j t at shares bottoms
below_from_by_cases types (Abstract s x) (Exact j) (t, at, shares, bottoms) = exact_above_bottom types s x j t at shares bottoms
below_from_by_cases types (Concrete i) (Abstract r b) under = path_under types i r b under
below_from_by_cases types (Concrete i) (Concrete j) reach = path_along types reach
below_from_by_cases types (Concrete i) (Exact j) never = absurd never
below_from_by_cases types (Exact i) (Abstract r b) under = IsBelow-trans types (exact_below types i) (path_under types i r b under)
below_from_by_cases types (Exact i) (Concrete j) reach = IsBelow-trans types (exact_below types i) (path_along types reach)
below_from_by_cases types (Exact i) (Exact j) same = subst (λ n. IsBelow types (Exact i) (Exact n)) same itself

-- a decision of the cases decides the closure
pub decides_below : (types : List SubType) → IsOrderly types → (a b : HeapType) (r : Bool) → IsTrue r ↔ IsBelowByCases types a b
    → IsTrue r ↔ IsBelow types a b
decides_below types o a b r decides =
    (λ yes. below_from_by_cases types a b (decides.0 yes), λ below. decides.1 (by_cases_from_below types o a b below))

-- a test of the cases of two heap types, in the form of the code, decides the closure
pub decides_at : (types : List SubType) → IsOrderly types → (a b x y : HeapType) → a ≡ x → b ≡ y → IsInRange types a → IsInRange types b
    → (r : Bool) → (IsInRange types x → IsInRange types y → IsTrue r ↔ IsBelowByCases types x y) → IsTrue r ↔ IsBelow types a b
decides_at types o a b x y is_x is_y in_a in_b r decides =
    let cases = decides (subst (IsInRange types) is_x in_a) (subst (IsInRange types) is_y in_b) in
    subst (λ v. IsTrue r ↔ IsBelow types v b) (sym is_x)
    (subst (λ v. IsTrue r ↔ IsBelow types x v) (sym is_y) (decides_below types o x y r cases))

-- a decision about the type that the code reads at an index
pub bottom_read : (types : List SubType) (s : Bool) (x : AbstractHeapType) (j : ℕ) (t : SubType) (r : Bool) → j < length types
    → t ≡ get_or types j t → IsTrue r ↔ ((s ≡ shared t) × (x ≡ bottom t)) → IsTrue r ↔ IsBottomAt types s x j
bottom_read types s x j t r inside read decides =
    let stands = slice_get_read types (length types) j t refl inside read in (
      λ yes. (t, stands, (decides.0 yes).0, (decides.0 yes).1),
      λ (u, at, shares, bottoms).
          let same : u ≡ t = same_Some u t (sym at ∙ stands) in
          decides.1 (shares ∙ ap shared same, bottoms ∙ ap bottom same),
    )

pub under_read : (types : List SubType) (i : ℕ) (q : Bool) (z : AbstractHeapType) (t : SubType) (r : Bool) → i < length types
    → t ≡ get_or types i t → IsTrue r ↔ ((shared t ≡ q) × IsTrue (is_abstract_below (kind t) z)) → IsTrue r ↔ IsUnder types i q z
under_read types i q z t r inside read decides =
    let stands = slice_get_read types (length types) i t refl inside read in (
      λ yes. (t, stands, (decides.0 yes).0, (decides.0 yes).1),
      λ (u, at, shares, below).
          let same : t ≡ u = same_Some t u (sym stands ∙ at) in
          decides.1 (ap shared same ∙ shares, subst (λ y. IsTrue (is_abstract_below y z)) (sym (ap kind same)) below),
    )

-- reaching one type from another along declared supertypes is subtyping of the two
pub reaches_read : (types : List SubType) → IsOrderly types → (i j : ℕ) (r : Bool) → IsTrue r ↔ IsBelow types (Concrete i) (Concrete j)
    → IsTrue r ↔ Reaches types i j
reaches_read types o i j r decides = (
  λ yes. by_cases_from_below types o (Concrete i) (Concrete j) (decides.0 yes),
  λ reach. decides.1 (path_along types reach),
)

reaches_above : (types : List SubType) (i s j : ℕ) (t : SubType) → slice_get types i ≡ Some t → t.supertype ≡ Some s → (i ≡ j → ⊥)
    → Reaches types i j → Reaches types s j
reaches_above types i s j t at sup other here = absurd (other refl)
reaches_above types i s j t at sup other (up {s = s'} {t = t'} at' sup' reach) =
    let same : t ≡ t' = same_Some t t' (sym at ∙ at') in
    subst (λ n. Reaches types n j) (same_Some s' s (sym sup' ∙ sym (ap (λ x. x.supertype) same) ∙ sup)) reach

reaches_alone : (types : List SubType) (i j : ℕ) (t : SubType) → slice_get types i ≡ Some t → t.supertype ≡ None → (i ≡ j → ⊥)
    → Reaches types i j → ⊥
reaches_alone types i j t at none other here = other refl
reaches_alone types i j t at none other (up {s = s'} {t = t'} at' sup' reach) =
    let same : t ≡ t' = same_Some t t' (sym at ∙ at') in
    none-some s' (sym none ∙ ap (λ x. x.supertype) same ∙ sup')

-- a type reached from another is at most as deep
reaches_depth : (types : List SubType) (i j d e : ℕ) → Reaches types i j → HasDepth types i d → HasDepth types j e → e ≤ d
reaches_depth types i j d e here deep end =
    let same : d ≡ e = depth_alone types deep end in
    omega (arith, same)
reaches_depth types i j d e (up {s = s} {t = t} at sup reach) (root {t = u} at' none) end =
    let same : t ≡ u = same_Some t u (sym at ∙ at') in
    absurd (none-some s (sym none ∙ sym (ap (λ x. x.supertype) same) ∙ sup))
reaches_depth types i j d e (up {s = s} {t = t} at sup reach) (deeper {s = r} {d = f} {t = u} at' up' above) end =
    let same : t ≡ u = same_Some t u (sym at ∙ at') in
    let one : r ≡ s = same_Some r s (sym up' ∙ sym (ap (λ x. x.supertype) same) ∙ sup) in
    let less : e ≤ f = reaches_depth types s j f e reach (subst (λ n. HasDepth types n f) one above) end in
    omega (arith, less)

-- a type reached from a declared supertype is less deep
reaches_less : (types : List SubType) (i s j d e : ℕ) (t : SubType) → slice_get types i ≡ Some t → t.supertype ≡ Some s → Reaches types s j
    → HasDepth types i d → HasDepth types j e → e < d
reaches_less types i s j d e t at sup reach (root {t = u} at' none) end =
    let same : t ≡ u = same_Some t u (sym at ∙ at') in
    absurd (none-some s (sym none ∙ sym (ap (λ x. x.supertype) same) ∙ sup))
reaches_less types i s j d e t at sup reach (deeper {s = r} {d = f} {t = u} at' up' above) end =
    let same : t ≡ u = same_Some t u (sym at ∙ at') in
    let one : r ≡ s = same_Some r s (sym up' ∙ sym (ap (λ x. x.supertype) same) ∙ sup) in
    let less : e ≤ f = reaches_depth types s j f e reach (subst (λ n. HasDepth types n f) one above) end in
    omega (arith, less)

-- at most one type of a given depth is reached from a type
reaches_level : (types : List SubType) (i j k d : ℕ) → Reaches types i j → Reaches types i k → HasDepth types j d → HasDepth types k d
    → j ≡ k
reaches_level types i j k d here here deep end = refl
reaches_level types i j k d here (up {s = s} {t = t} at sup reach) deep end =
    let less : d < d = reaches_less types i s k d d t at sup reach deep end in
    absurd (omega (arith, less))
reaches_level types i j k d (up {s = s} {t = t} at sup reach) here deep end =
    let less : d < d = reaches_less types i s j d d t at sup reach end deep in
    absurd (omega (arith, less))
reaches_level types i j k d (up {s = s} {t = t} at sup reach) (up {s = s'} {t = t'} at' sup' on) deep end =
    let same : t ≡ t' = same_Some t t' (sym at ∙ at') in
    let to : s' ≡ s = same_Some s' s (sym sup' ∙ sym (ap (λ x. x.supertype) same) ∙ sup) in
    reaches_level types s j k d reach (subst (λ n. Reaches types n k) to on) deep end

-- a type is at most as deep as its subtypes
pub below_depth : (types : List SubType) → IsOrderly types → (i j d e : ℕ) → IsBelow types (Concrete i) (Concrete j) → HasDepth types i d
    → HasDepth types j e → e ≤ d
below_depth types o i j d e below deep end = reaches_depth types i j d e (by_cases_from_below types o (Concrete i) (Concrete j) below) deep
    end

-- a type has at most one supertype of a given depth
pub below_level : (types : List SubType) → IsOrderly types → (i j k d : ℕ) → IsBelow types (Concrete i) (Concrete j)
    → IsBelow types (Concrete i) (Concrete k) → HasDepth types j d → HasDepth types k d → j ≡ k
below_level types o i j k d below on deep end =
    reaches_level types i j k d (by_cases_from_below types o (Concrete i) (Concrete j) below)
    (by_cases_from_below types o (Concrete i) (Concrete k) on) deep end

-- the declared supertype of a type is below each other supertype of it
pub below_above : (types : List SubType) → IsOrderly types → (i s j : ℕ) (t : SubType) → slice_get types i ≡ Some t → t.supertype ≡ Some s
    → (i ≡ j → ⊥) → IsBelow types (Concrete i) (Concrete j) → IsBelow types (Concrete s) (Concrete j)
below_above types o i s j t at sup other below =
    path_along types (reaches_above types i s j t at sup other (by_cases_from_below types o (Concrete i) (Concrete j) below))

-- a type without a declared supertype is a subtype of no other type
pub below_alone : (types : List SubType) → IsOrderly types → (i j : ℕ) (d : SubType) → i < length types → (get_or types i d).supertype
    ≡ None → (i ≡ j → ⊥) → IsBelow types (Concrete i) (Concrete j) → ⊥
below_alone types o i j d inside none other below =
    reaches_alone types i j (get_or types i d) (slice_get-get_or types i d inside) none other
    (by_cases_from_below types o (Concrete i) (Concrete j) below)

-- neither exact nor a bottom
abbrev IsOverExact : HeapType → Type 0
IsOverExact (Abstract s a) = (x : CompositeInnerType) → a ≡ bottom_of x → ⊥
IsOverExact (Concrete i) = Unit {0}
IsOverExact (Exact i) = ⊥

-- no step leads back below an exact type
over_step : (types : List SubType) (a b : HeapType) → IsStep types a b → IsOverExact a → IsOverExact b
over_step types (Abstract s a) (Abstract r b) (p, step) over =
    λ x same. no_step_to_bottom x a (subst (λ y. IsTrue (is_abstract_step a y)) same step)
over_step types (Abstract s a) (Concrete j) step over = tt
over_step types (Abstract s a) (Exact j) (t, at, p, bottoms) over = over t.composite_type.inner bottoms
over_step types (Concrete i) (Abstract r b) (t, at, p, kinds) over = λ x same. kind_not_bottom t.composite_type.inner x (kinds ∙ same)
over_step types (Concrete i) (Concrete j) step over = tt
over_step types a b step over = search rules

over_along : (types : List SubType) (a b : HeapType) → IsBelow types a b → IsOverExact a → IsOverExact b
over_along types a b itself over = over
over_along types a c (by_step {b = b} step below) over = over_along types b c below (over_step types a b step over)

pub concrete_not_below_exact : (types : List SubType) (i j : ℕ) → ¬ IsBelow types (Concrete i) (Exact j)
concrete_not_below_exact types i j below = over_along types (Concrete i) (Exact j) below tt
