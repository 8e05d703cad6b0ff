-- The test of subtyping has the same result for existing types over more types.
use Rattle.smith_draw_definitions.proofs.Common.{ap, arith, Bool, Concrete, Exact, IsOrderly, length, List, Ref, refl, rules, SubType, suc}
use Rattle.smith_draw_definitions.proofs.Common.{ValType, zero, ℕ, ◌++◌, ◌+◌, ◌<◌, ◌∙◌, ◌∷◌, ◌≡◌}
use Rattle.std.proofs.Common.{None, Option, Some}
use Rattle.std.specs.Prelude.{not, ◌&&◌, ◌||◌, ◌==◌}
use Rattle.std.proofs.lemmas.List.{length-append}
use Rattle.smith_types.specs.Subtyping.{IsInRange, IsValInRange}
use Rattle.smith_types.specs.Syntax.value_type.HeapType.{HeapType}
use Rattle.smith_types.specs.Syntax.value_type.HeapType.TheVariants.{Abstract}
use Rattle.smith_draw_types.specs.Offered.{supertype_of, supertype_at, ancestors_within, ancestors}
use Rattle.smith_draw_types.specs.Below.{names, is_under, is_bottom_of, is_heap_below, is_val_below}
use Rattle.smith_draw_types.proofs.AncestorLemmas.{supertype_before, within_enough}
use Rattle.smith_draw_definitions.proofs.GroupedTypeLemmas.{in_front}

-- types in range of a list are in range of a longer one
heap_longer : (types more : List SubType) (heap : HeapType) → IsInRange types heap → IsInRange (types ++ more) heap
heap_longer types more (Abstract shared ty) h = tt
heap_longer types more (Concrete index) h = let longer = length-append types more in omega (arith, longer, h)
heap_longer types more (Exact index) h = let longer = length-append types more in omega (arith, longer, h)

pub value_longer : (types more : List SubType) (value : ValType) → IsValInRange types value → IsValInRange (types ++ more) value
value_longer types more (Ref reference) h = heap_longer types more reference.heap_type h
value_longer types more value h = search rules

module _ (types more : List SubType) (orderly : IsOrderly types) where
  at_same : (i : ℕ) → i < length types → supertype_at (types ++ more) i ≡ supertype_at types i
  at_same i inside = ap supertype_of (in_front types more i inside)

  -- the ancestors of a type stay the same
  within_turn_same : (n i : ℕ) (o : Option ℕ) → supertype_at types i ≡ o → supertype_at (types ++ more) i ≡ o
      → ((s : ℕ) → o ≡ Some s → ancestors_within n (types ++ more) s ≡ ancestors_within n types s)
      → ancestors_within (suc n) (types ++ more) i ≡ ancestors_within (suc n) types i
  within_turn_same n i None e e' same = rw (e, e', ancestors_within) refl
  within_turn_same n i (Some s) e e' same = rw (e, e', ancestors_within) (ap (λ xs. Concrete s ∷ xs) (same s refl))

  within_same : (n i : ℕ) → i < length types → ancestors_within n (types ++ more) i ≡ ancestors_within n types i
  within_same zero i inside = refl
  within_same (suc n) i inside =
      within_turn_same n i (supertype_at types i) refl (at_same i inside)
      (λ s e. let before = supertype_before types orderly i s e in within_same n s (omega arith))

  ancestors_same : (i : ℕ) → i < length types → ancestors (types ++ more) i ≡ ancestors types i
  unfolding ancestors
  ancestors_same i inside =
      let longer : length (types ++ more) ≡ length types + length more = length-append types more in
      within_same (length (types ++ more)) i inside ∙ within_enough types orderly (length (types ++ more)) (length types) i
      (omega (arith, longer)) (omega arith)

  heap_same : (a b : HeapType) → IsInRange types a → IsInRange types b → is_heap_below (types ++ more) a b ≡ is_heap_below types a b
  unfolding is_heap_below
  heap_same (Abstract s a) (Abstract r b) lower upper = refl
  heap_same (Abstract s a) (Concrete j) lower upper = ap (λ (o : Option SubType). is_bottom_of o s a) (in_front types more j upper)
  heap_same (Abstract s a) (Exact j) lower upper = ap (λ (o : Option SubType). is_bottom_of o s a) (in_front types more j upper)
  heap_same (Concrete i) (Abstract r b) lower upper = ap (λ (o : Option SubType). is_under o r b) (in_front types more i lower)
  heap_same (Concrete i) (Concrete j) lower upper = ap (λ (hs : List HeapType). (i == j) || names j hs) (ancestors_same i lower)
  heap_same (Concrete i) (Exact j) lower upper = refl
  heap_same (Exact i) (Abstract r b) lower upper = ap (λ (o : Option SubType). is_under o r b) (in_front types more i lower)
  heap_same (Exact i) (Concrete j) lower upper = ap (λ (hs : List HeapType). (i == j) || names j hs) (ancestors_same i lower)
  heap_same (Exact i) (Exact j) lower upper = refl

  pub value_same : (a b : ValType) → IsValInRange types a → IsValInRange types b → is_val_below (types ++ more) a b ≡ is_val_below types a b
  value_same (Ref a) (Ref b) lower upper = ap (λ (below : Bool). (not a.nullable || b.nullable) && below)
      (heap_same a.heap_type b.heap_type lower upper)
  value_same a b lower upper = search rules
