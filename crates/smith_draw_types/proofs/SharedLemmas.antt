-- Matching types have the same sharedness.
use Rattle.smith_draw_types.proofs.Common.{[], Abstract, All, All-from_recursion, AreBelow, arith, Bool, Concrete, Exact, FuncType}
use Rattle.smith_draw_types.proofs.Common.{HeapType, I16, I8, IsBelow, IsFuncMatch, IsHeapTypeShared, IsOrderly, IsShareable}
use Rattle.smith_draw_types.proofs.Common.{IsStorageMatch, IsTrue, IsValBelow, itself, length, List, recursion_from_All, Ref, rules, shared}
use Rattle.smith_draw_types.proofs.Common.{slice_get, slice_get-get_or, slice_get_within, Some, StorageType, subst, SubType, sym, Val}
use Rattle.smith_draw_types.proofs.Common.{ValType, ℕ, ◌++◌, ◌<◌, ◌↔◌, ◌∙◌, ◌∷◌, ◌≡◌}
use Rattle.std.specs.List.{AllByRecursion as Each}
use Rattle.std.proofs.lemmas.Option.{same_Some}
use Rattle.smith_types.specs.Subtyping.{by_step, IsStep}
use Rattle.smith_draw_types.specs.Kept.{IsStorageShareable, IsFuncShareable}

true_as : {a b : Bool} → a ≡ b → IsTrue a ↔ IsTrue b
true_as {a = a} e = (λ h. sym e ∙ h, λ h. e ∙ h)

both_ways : {A B C : Type 0} → A ↔ B → B ↔ C → A ↔ C
both_ways p q = (λ a. q.0 (p.0 a), λ c. p.1 (q.1 c))

turned : {A B : Type 0} → A ↔ B → B ↔ A
turned p = (p.1, p.0)

shared_at : (types : List SubType) (i : ℕ) (t : SubType) → slice_get types i ≡ Some t → IsHeapTypeShared types (Concrete i) ↔ IsTrue
    (shared t)
shared_at types i t at = (
  λ (u, at', h). subst (λ (v : SubType). IsTrue (shared v)) (same_Some u t (sym at' ∙ at)) h,
  λ h. (t, at, h),
)

declared_shared : (types : List SubType) → IsOrderly types → (i j : ℕ) (t : SubType) → slice_get types i ≡ Some t → t.supertype ≡ Some j
    → IsHeapTypeShared types (Concrete i) ↔ IsHeapTypeShared types (Concrete j)
declared_shared types orderly i j t at sup =
    let (before, alike) = orderly.under i j t at sup in
    let inside : i < length types = slice_get_within types i t at in
    let above = slice_get-get_or types j t (omega arith) in
    both_ways (shared_at types i t at) (both_ways (true_as (alike _ above).shared) (turned (shared_at types j _ above)))

step_shared : (types : List SubType) → IsOrderly types → (a b : HeapType) → IsStep types a b
    → IsHeapTypeShared types a ↔ IsHeapTypeShared types b
step_shared types orderly (Abstract s a) (Abstract r b) (same, step) = true_as same
step_shared types orderly (Abstract s a) (Concrete j) (t, at, same, p) = both_ways (true_as same) (turned (shared_at types j t at))
step_shared types orderly (Abstract s a) (Exact j) (t, at, same, p) = both_ways (true_as same) (turned (shared_at types j t at))
step_shared types orderly (Concrete i) (Abstract r b) (t, at, same, p) = both_ways (shared_at types i t at) (true_as same)
step_shared types orderly (Concrete i) (Concrete j) (t, at, sup) = declared_shared types orderly i j t at sup
step_shared types orderly (Exact i) (Concrete j) same =
    subst (λ (n : ℕ). IsHeapTypeShared types (Concrete i) ↔ IsHeapTypeShared types (Concrete n)) same ((λ h. h), (λ h. h))
step_shared types orderly a b step = absurd step

-- a subtype of a heap type is shared if and only if that type is
pub below_shared : (types : List SubType) → IsOrderly types → (a b : HeapType) → IsBelow types a b
    → IsHeapTypeShared types a ↔ IsHeapTypeShared types b
below_shared types orderly a b itself = ((λ h. h), (λ h. h))
below_shared types orderly a c (by_step {b = b} step below) = both_ways (step_shared types orderly a b step)
    (below_shared types orderly b c below)

pub above_shared : (types : List SubType) → IsOrderly types → (a b : HeapType) → IsBelow types a b
    → IsHeapTypeShared types b ↔ IsHeapTypeShared types a
above_shared types orderly a b below = turned (below_shared types orderly a b below)

-- a subtype of a value type may occur in a shared type if and only if that type may
pub val_shareable : (types : List SubType) → IsOrderly types → (a b : ValType) → IsValBelow types a b
    → IsShareable types a ↔ IsShareable types b
val_shareable types orderly (Ref a) (Ref b) below = below_shared types orderly a.heap_type b.heap_type below.heap
val_shareable types orderly a b below = search rules

pub val_shareable_above : (types : List SubType) → IsOrderly types → (a b : ValType) → IsValBelow types a b
    → IsShareable types b ↔ IsShareable types a
val_shareable_above types orderly a b below = turned (val_shareable types orderly a b below)

one_each : (types : List SubType) (a b : ValType) → IsShareable types a ↔ IsShareable types b → All (IsShareable types) (a ∷ [])
    → All (IsShareable types) (b ∷ [])
one_each types a b same h = All-from_recursion (IsShareable types) (b ∷ []) (
  same.0 (recursion_from_All (IsShareable types) (a ∷ []) h).0,
  tt,
)

pub storage_shareable : (types : List SubType) → IsOrderly types → (a b : StorageType) → IsStorageMatch types a b
    → IsStorageShareable types a ↔ IsStorageShareable types b
storage_shareable types orderly (Val a) (Val b) matched =
    let same = val_shareable types orderly a b matched in
    (one_each types a b same, one_each types b a (turned same))
storage_shareable types orderly I8 I8 matched = ((λ h. h), (λ h. h))
storage_shareable types orderly I16 I16 matched = ((λ h. h), (λ h. h))
storage_shareable types orderly a b matched = absurd matched

each_shareable : (types : List SubType) → IsOrderly types → (xs ys : List ValType) → AreBelow types xs ys
    → Each (IsShareable types) xs ↔ Each (IsShareable types) ys
each_shareable types orderly [] [] below = ((λ h. h), (λ h. h))
each_shareable types orderly (x ∷ xs) (y ∷ ys) (below, more) =
    let one = val_shareable types orderly x y below in
    let others = each_shareable types orderly xs ys more in
    ((λ h. (one.0 h.0, others.0 h.1)), (λ h. (one.1 h.0, others.1 h.1)))
each_shareable types orderly xs ys below = absurd below

pub each_join : {A : Type 0} (P : A → Type 0) (xs ys : List A) → Each P (xs ++ ys) ↔ (Each P xs × Each P ys)
each_join P [] ys = ((λ h. (tt, h)), (λ h. h.1))
each_join P (x ∷ xs) ys =
    let others = each_join P xs ys in
    ((λ h. ((h.0, (others.0 h.1).0), (others.0 h.1).1)), (λ h. (h.0.0, others.1 (h.0.1, h.1))))

joined : (types : List SubType) (xs ys zs ws : List ValType) → (Each (IsShareable types) xs → Each (IsShareable types) zs)
    → (Each (IsShareable types) ys → Each (IsShareable types) ws)
    → All (IsShareable types) (xs ++ ys) → All (IsShareable types) (zs ++ ws)
joined types xs ys zs ws first second h =
    let apart = (each_join (IsShareable types) xs ys).0 (recursion_from_All (IsShareable types) (xs ++ ys) h) in
    All-from_recursion (IsShareable types) (zs ++ ws) ((each_join (IsShareable types) zs ws).1 (first apart.0, second apart.1))

pub func_shareable : (types : List SubType) → IsOrderly types → (f g : FuncType) → IsFuncMatch types f g
    → IsFuncShareable types f ↔ IsFuncShareable types g
func_shareable types orderly f g matched =
    let params = each_shareable types orderly g.params f.params matched.params in
    let results = each_shareable types orderly f.results g.results matched.results in (
      joined types f.params f.results g.params g.results params.1 results.0,
      joined types g.params g.results f.params f.results params.0
          results.1,
    )
