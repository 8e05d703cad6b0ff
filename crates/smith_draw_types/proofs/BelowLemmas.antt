-- The test of subtyping decides it, over orderly types.
use Rattle.smith_draw_types.proofs.Common.{[], Abstract, AbstractHeapType, ap, Bool, bottom, bottom_of, by_cases_from_below}
use Rattle.smith_draw_types.proofs.Common.{CompositeInnerType, Concrete, Exact, false, HeapType, inl, inr, is_abstract_below, IsBelow}
use Rattle.smith_draw_types.proofs.Common.{IsOrderly, IsValBelow, kind, List, None, Option, Ref, refl, rules, same_from_decides, shared}
use Rattle.smith_draw_types.proofs.Common.{slice_get, Some, subst, SubType, sym, true, ValType, ℕ, ◌↔◌, ◌∙◌, ◌∷◌, ◌≡◌}
use Rattle.std.proofs.Common.{IsTrue}
use Rattle.std.specs.Prelude.{not, ◌&&◌, ◌==◌, ◌||◌}
use Rattle.std.specs.Bool.{Decides}
use Rattle.std.specs.Cmp.{booleans_Decides, unsigned_Decides}
use Rattle.std.specs.List.{AllByRecursion as Each}
use Rattle.std.proofs.Math.Bool.{beq}
use Rattle.std.proofs.lemmas.Bool.Decides.{Decides-and, Decides-like, Decides-or}
use Rattle.std.proofs.lemmas.Option.{same_Some}
use Rattle.smith_types.proofs.WalkLemmas.{below_from_by_cases, here, IsBelowByCases, Reaches, up}
use Rattle.smith_draw_types.specs.Offered.{ancestors}
use Rattle.smith_draw_types.specs.Below.{names, is_under, is_bottom_of, is_heap_below, is_val_below}
use Rattle.smith_draw_types.proofs.AncestorLemmas.{ancestors_up, ancestors_above}

below_bottom : (x : CompositeInnerType) (a : AbstractHeapType) → IsTrue (is_abstract_below a (bottom_of x)) → a ≡ bottom_of x
below_bottom x a below = search rules

bottom_itself : (x : CompositeInnerType) → is_abstract_below (bottom_of x) (bottom_of x) ≡ true
bottom_itself x = search rules

bottom_decides : (types : List SubType) (j : ℕ) (s : Bool) (a : AbstractHeapType) (o : Option SubType) → slice_get types j ≡ o
    → Decides (is_bottom_of o s a) ((t : SubType) × (slice_get types j ≡ Some t) × (s ≡ shared t) × (a ≡ bottom t))
bottom_decides types j s a None at = (λ e. cc, λ (t, at', p, q). cc)
bottom_decides types j s a (Some t) at =
    Decides-like (beq s (shared t) && is_abstract_below a (bottom t)) (λ (p, q). (t, at, p, below_bottom t.composite_type.inner a q))
    (λ (u, at', p, q). let same : u ≡ t = same_Some u t (sym at' ∙ at) in (
      p ∙ ap shared same,
      subst (λ (x : AbstractHeapType). is_abstract_below x (bottom t) ≡ true) (sym (q ∙ ap bottom same))
          (bottom_itself t.composite_type.inner),
    ))
    (Decides-and (beq s (shared t)) (is_abstract_below a (bottom t)) (booleans_Decides s (shared t)) (λ e. e, λ e. e))

under_decides : (types : List SubType) (i : ℕ) (r : Bool) (b : AbstractHeapType) (o : Option SubType) → slice_get types i ≡ o
    → Decides (is_under o r b) ((t : SubType) × (slice_get types i ≡ Some t) × (shared t ≡ r) × IsTrue (is_abstract_below (kind t) b))
under_decides types i r b None at = (λ e. cc, λ (t, at', p, q). cc)
under_decides types i r b (Some t) at =
    Decides-like (beq (shared t) r && is_abstract_below (kind t) b) (λ (p, q). (t, at, p, q))
    (λ (u, at', p, q). let same : u ≡ t = same_Some u t (sym at' ∙ at) in
    (sym (ap shared same) ∙ p, subst (λ (x : AbstractHeapType). is_abstract_below x b ≡ true) (ap kind same) q))
    (Decides-and (beq (shared t) r) (is_abstract_below (kind t) b) (booleans_Decides (shared t) r) (λ e. e, λ e. e))

named_below : (types : List SubType) (i j : ℕ) (hs : List HeapType) → Each (λ (h : HeapType). IsBelow types (Concrete i) h) hs
    → names j hs ≡ true → IsBelow types (Concrete i) (Concrete j)
named_below types i j [] each e = cc
named_below types i j (Abstract s a ∷ hs) (h, each) e = named_below types i j hs each e
named_below types i j (Exact k ∷ hs) (h, each) e = named_below types i j hs each e
named_below types i j (Concrete k ∷ hs) (h, each) e =
    elim ((Decides-or (k == j) (names j hs) (unsigned_Decides k j) (λ f. f, λ f. f)).0 e) [
      | inl same ↦ subst (λ (n : ℕ). IsBelow types (Concrete i) (Concrete n)) same h
      | inr more ↦ named_below types i j hs each more
    ]

reached_named : (types : List SubType) → IsOrderly types → (i j : ℕ) → Reaches types i j → ((i == j) || names j (ancestors types i)) ≡ true
reached_named types o i j here = (Decides-or (i == i) (names i (ancestors types i)) (unsigned_Decides i i) (λ f. f, λ f. f)).1 (inl refl)
reached_named types o i j (up {s = s} {t = t} at sup more) =
    let above : ancestors types i ≡ Concrete s ∷ ancestors types s = ancestors_up types o i s (rw at sup) in
    (Decides-or (i == j) (names j (ancestors types i)) (unsigned_Decides i j) (λ f. f, λ f. f)).1
    (inr (rw above (reached_named types o s j more)))

reach_decides : (types : List SubType) → IsOrderly types → (i j : ℕ) → Decides ((i == j) || names j (ancestors types i)) (Reaches types i j)
reach_decides types o i j = (
  λ e. elim ((Decides-or (i == j) (names j (ancestors types i)) (unsigned_Decides i j) (λ f. f, λ f. f)).0 e) [
    | inl same ↦ subst (λ (n : ℕ). Reaches types i n) same here
    | inr more ↦ by_cases_from_below types o (Concrete i) (Concrete j) (named_below types i j (ancestors types i) (ancestors_above types i)
        more)
  ],
  reached_named types o i j,
)

cases_decide : (types : List SubType) → IsOrderly types → (a b : HeapType) → Decides (is_heap_below types a b) (IsBelowByCases types a b)
unfolding is_heap_below
cases_decide types o (Abstract s x) (Abstract r y) = Decides-and (beq s r) (is_abstract_below x y) (booleans_Decides s r) (λ e. e, λ e. e)
cases_decide types o (Abstract s x) (Concrete j) = bottom_decides types j s x (slice_get types j) refl
cases_decide types o (Abstract s x) (Exact j) = bottom_decides types j s x (slice_get types j) refl
cases_decide types o (Concrete i) (Abstract r y) = under_decides types i r y (slice_get types i) refl
cases_decide types o (Concrete i) (Concrete j) = reach_decides types o i j
cases_decide types o (Concrete i) (Exact j) = (λ e. cc, λ never. absurd never)
cases_decide types o (Exact i) (Abstract r y) = under_decides types i r y (slice_get types i) refl
cases_decide types o (Exact i) (Concrete j) = reach_decides types o i j
cases_decide types o (Exact i) (Exact j) = unsigned_Decides i j

pub heap_decides : (types : List SubType) → IsOrderly types → (a b : HeapType) → Decides (is_heap_below types a b) (IsBelow types a b)
heap_decides types o a b = Decides-like (is_heap_below types a b) (below_from_by_cases types a b) (by_cases_from_below types o a b)
    (cases_decide types o a b)

nullable_decides : (a b : Bool) → Decides (not a || b) (IsTrue a → IsTrue b)
nullable_decides true true = (λ e h. h, λ h. refl)
nullable_decides true false = (λ e. cc, λ h. h refl)
nullable_decides false b = (λ e h. cc, λ h. refl)

pub val_decides : (types : List SubType) → IsOrderly types → (a b : ValType) → Decides (is_val_below types a b) (IsValBelow types a b)
val_decides types o (Ref a) (Ref b) =
    Decides-like ((not a.nullable || b.nullable) && is_heap_below types a.heap_type b.heap_type)
    (λ (p, q). record { heap = q; nullable = p }) (λ h. (h.nullable, h.heap))
    (Decides-and (not a.nullable || b.nullable) (is_heap_below types a.heap_type b.heap_type) (nullable_decides a.nullable b.nullable)
    (heap_decides types o a.heap_type b.heap_type))
val_decides types o a b = search rules

-- the result of the test in the code
pub val_tested : (types : List SubType) → IsOrderly types → (a b : ValType) (r : Bool) → IsTrue r ↔ IsValBelow types a b
    → r ≡ is_val_below types a b
val_tested types o a b r decides = same_from_decides r (is_val_below types a b) decides (val_decides types o a b)
