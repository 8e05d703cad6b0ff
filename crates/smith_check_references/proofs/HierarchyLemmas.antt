-- What is above a heap type is below the top of its hierarchy.
use Rattle.smith_check_references.proofs.Common.{Abstract, AbstractHeapType, all_at, ap, arith, BodyContext, Concrete, HeapType}
use Rattle.smith_check_references.proofs.Common.{IsHeapValid, IsOrderly, IsRefBelow, IsScope, IsTrue, itself, List, refl, RefType}
use Rattle.smith_check_references.proofs.Common.{slice_get, Some, subst, SubType, sym, ℕ, ◌∙◌, ◌≡◌}
use Rattle.std.proofs.Common.{get_or, rules}
use Rattle.std.specs.Prelude.{Bool, length, true, ◌<◌}
use Rattle.std.proofs.lemmas.Option.{same_Some, slice_get_within, slice_get-get_or}
use Rattle.smith_types.specs.Syntax.Kinds.{kind, kind_of, bottom_of, shared}
use Rattle.smith_types.specs.Syntax.composite_type.CompositeInnerType.{CompositeInnerType}
use Rattle.smith_types.specs.Syntax.composite_type.CompositeInnerType.TheVariants as inner
use Rattle.smith_types.specs.Syntax.value_type.AbstractHeapType.TheVariants as abstract
use Rattle.smith_types.specs.Syntax.value_type.HeapType.TheVariants.{Exact}
use Rattle.smith_types.specs.Entities.{IsFuncTypeIndex}
use Rattle.smith_types.specs.Flags.{IsAbstractEnabled, IsInnerEnabled, IsSubTypeEnabled}
use Rattle.smith_types.specs.Subtyping.{by_step, is_abstract_below, is_abstract_step, IsBelow, IsStep}
use Rattle.smith_types.proofs.WalkLemmas.{below_from_by_cases, concrete_not_below_exact}
use Rattle.smith_check_references.proofs.OfferLemmas.{own_heap}
use Rattle.smith_check_references.specs.Hierarchies.{top_kind, IsTop, IsFunctionHeap}
use Rattle.smith_check_references.specs.Offers.{IsHeapOffer}

-- the finite tables
tops_alike : (a b : AbstractHeapType) → IsTrue (is_abstract_step a b) → top_kind a ≡ top_kind b
tops_alike a b step = search rules

top_of_bottom : (x : CompositeInnerType) → top_kind (bottom_of x) ≡ top_kind (kind_of x)
top_of_bottom x = search rules

below_top_kind : (a : AbstractHeapType) → IsTrue (is_abstract_below a (top_kind a))
below_top_kind a = search rules

-- a step stays in the hierarchy
top_along : (types : List SubType) → IsOrderly types → (a b top : HeapType) → IsStep types a b → IsTop types a top → IsTop types b top
top_along types o (Abstract s a) (Abstract r b) top (same, step) is =
    is ∙ ap (λ q. Abstract q (top_kind a)) same ∙ ap (λ k. Abstract r k) (tops_alike a b step)
top_along types o (Abstract s a) (Concrete j) top (t, at, same, bottoms) is = (
  t,
  at,
  is ∙ ap (λ q. Abstract q (top_kind a)) same ∙ ap (λ k. Abstract (shared t) (top_kind k)) bottoms
      ∙ ap (λ k. Abstract (shared t) k) (top_of_bottom t.composite_type.inner),
)
top_along types o (Abstract s a) (Exact j) top (t, at, same, bottoms) is = (
  t,
  at,
  is ∙ ap (λ q. Abstract q (top_kind a)) same ∙ ap (λ k. Abstract (shared t) (top_kind k)) bottoms
      ∙ ap (λ k. Abstract (shared t) k) (top_of_bottom t.composite_type.inner),
)
top_along types o (Concrete i) (Abstract r b) top (t, at, same, kinds) (u, there, is) =
    let one : u ≡ t = same_Some u t (sym there ∙ at) in
    is ∙ ap (λ (v : SubType). Abstract (shared v) (top_kind (kind v))) one ∙ ap (λ q. Abstract q (top_kind (kind t))) same
    ∙ ap (λ k. Abstract r (top_kind k)) kinds
top_along types o (Concrete i) (Concrete j) top (t, at, up) (u, there, is) =
    let one : u ≡ t = same_Some u t (sym there ∙ at) in
    let (before, alike) = o.under i j t at up in
    let inside : i < length types = slice_get_within types i t at in
    let w : SubType = get_or types j t in
    let stands : slice_get types j ≡ Some w = slice_get-get_or types j t (omega arith) in
    let like = alike w stands in (
      w,
      stands,
      is ∙ ap (λ (v : SubType). Abstract (shared v) (top_kind (kind v))) one ∙ ap (λ q. Abstract q (top_kind (kind t))) like.shared
          ∙ ap (λ k. Abstract (shared w) (top_kind k)) like.kind,
    )
top_along types o (Concrete i) (Exact j) top step is = absurd step
top_along types o (Exact i) (Abstract r b) top step is = absurd step
top_along types o (Exact i) (Concrete j) top same (u, there, is) = (u, subst (λ n. slice_get types n ≡ Some u) same there, is)
top_along types o (Exact i) (Exact j) top step is = absurd step

pub top_above : (types : List SubType) → IsOrderly types → (a b top : HeapType) → IsBelow types a b → IsTop types a top → IsTop types b top
top_above types o a b top itself is = is
top_above types o a c top (by_step {b = b} step below) is = top_above types o b c top below (top_along types o a b top step is)

-- a heap type is below its top
pub below_top : (types : List SubType) (a top : HeapType) → IsTop types a top → IsBelow types a top
below_top types (Abstract s a) top is = subst (λ t. IsBelow types (Abstract s a) t) (sym is)
    (below_from_by_cases types (Abstract s a) (Abstract s (top_kind a)) (refl, below_top_kind a))
below_top types (Concrete i) top (t, at, is) = subst (λ h. IsBelow types (Concrete i) h) (sym is)
    (below_from_by_cases types (Concrete i) (Abstract (shared t) (top_kind (kind t))) (t, at, refl, below_top_kind (kind t)))
below_top types (Exact i) top (t, at, is) = subst (λ h. IsBelow types (Exact i) h) (sym is)
    (below_from_by_cases types (Exact i) (Abstract (shared t) (top_kind (kind t))) (t, at, refl, below_top_kind (kind t)))

-- what is above a reference is below the nullable reference to its top
pub below_nullable_top : (types : List SubType) → IsOrderly types → (to from : RefType) (top : HeapType) → IsTop types to.heap_type top
    → IsRefBelow types to from → IsRefBelow types from (record { nullable = true; heap_type = top })
below_nullable_top types o to from top is below = record {
  heap = below_top types from.heap_type top (top_above types o to.heap_type from.heap_type top below.heap is);
  nullable = λ n. refl;
}

-- the top of a valid abstract type is enabled
top_enabled : (context : BodyContext) (a : AbstractHeapType) → IsAbstractEnabled context.features a
    → IsAbstractEnabled context.features (top_kind a)
top_enabled context abstract.Func h = tt
top_enabled context abstract.NoFunc h = tt
top_enabled context abstract.Extern h = tt
top_enabled context abstract.NoExtern h = tt
top_enabled context abstract.Exn h = h
top_enabled context abstract.NoExn h = h.0
top_enabled context a h = search rules

-- the top of the kind of an enabled type is enabled
top_of_inner : (context : BodyContext) (x : CompositeInnerType) → IsInnerEnabled context.features x
    → IsAbstractEnabled context.features (top_kind (kind_of x))
top_of_inner context (inner.Array a) gc = gc
top_of_inner context (inner.Func f) results = tt
top_of_inner context (inner.Struct s) gc = gc

-- the top of a valid heap type is valid
pub top_valid : (context : BodyContext) (a top : HeapType) → IsScope context → IsTop context.types a top → IsHeapValid context a
    → IsHeapValid context top
top_valid context (Abstract s a) top scope is valid =
    subst (λ t. IsHeapValid context t) (sym is) (top_enabled context a valid.0, valid.1)
top_valid context (Concrete i) top scope (t, at, is) valid =
    let enabled = all_at (IsSubTypeEnabled context.features) context.types i t scope.enabled at in
    subst (λ h. IsHeapValid context h) (sym is) (top_of_inner context t.composite_type.inner enabled.inner, enabled.shared)
top_valid context (Exact i) top scope (t, at, is) valid =
    let enabled = all_at (IsSubTypeEnabled context.features) context.types i t scope.enabled at in
    subst (λ h. IsHeapValid context h) (sym is) (top_of_inner context t.composite_type.inner enabled.inner, enabled.shared)

-- the types above i31 that are not shared with other hierarchies
abbrev IsInternal : AbstractHeapType → Type 0
IsInternal abstract.I31 = Unit {0}
IsInternal abstract.Eq = Unit {0}
IsInternal abstract.Any = Unit {0}
IsInternal _ = ⊥

internal_step : (a b : AbstractHeapType) → IsTrue (is_abstract_step a b) → IsInternal a → IsInternal b
internal_step a b step internal = search rules

no_internal_bottom : (x : CompositeInnerType) → IsInternal (bottom_of x) → ⊥
no_internal_bottom x internal = search rules

internal_enabled : (context : BodyContext) (a : AbstractHeapType) → IsInternal a → IsAbstractEnabled context.features a
    → IsTrue context.features.gc
internal_enabled context abstract.I31 internal enabled = enabled
internal_enabled context abstract.Eq internal enabled = enabled
internal_enabled context abstract.Any internal enabled = enabled
internal_enabled context a internal enabled = absurd internal

internal_along : (types : List SubType) (s : Bool) (a : AbstractHeapType) (b : HeapType) → IsStep types (Abstract s a) b → IsInternal a
    → (c : AbstractHeapType) × (b ≡ Abstract s c) × IsInternal c
internal_along types s a (Abstract r c) (same, step) internal = (c, ap (λ q. Abstract q c) (sym same), internal_step a c step internal)
internal_along types s a (Concrete j) (t, at, same, bottoms) internal =
    absurd (no_internal_bottom t.composite_type.inner (subst IsInternal bottoms internal))
internal_along types s a (Exact j) (t, at, same, bottoms) internal =
    absurd (no_internal_bottom t.composite_type.inner (subst IsInternal bottoms internal))

internal_above : (types : List SubType) {a b : HeapType} (s : Bool) (x : AbstractHeapType) → IsBelow types a b → a ≡ Abstract s x
    → IsInternal x → (c : AbstractHeapType) × (b ≡ Abstract s c) × IsInternal c
internal_above types s x itself is internal = (x, is, internal)
internal_above types s x (by_step {b = b} step below) is internal =
    let (c, there, more) = internal_along types s x b (subst (λ a. IsStep types a b) is step) internal in
    internal_above types s c below there more

-- i31 is valid if a type above it is
pub i31_from_above : (context : BodyContext) (s : Bool) (other : HeapType) → IsHeapValid context other
    → IsBelow context.types (Abstract s abstract.I31) other → IsHeapValid context (Abstract s abstract.I31)
i31_from_above context s other valid below =
    let (c, is, internal) = internal_above context.types s abstract.I31 below refl tt in
    let (enabled, shareable) = subst (λ h. IsHeapValid context h) is valid in
    (internal_enabled context c internal enabled, shareable)

-- the abstract type of functions is the only valid one above a function type without garbage
-- collection
only_func : (context : BodyContext) (b : AbstractHeapType) → (IsTrue context.features.gc → ⊥)
    → IsAbstractEnabled context.features b → top_kind b ≡ abstract.Func → b ≡ abstract.Func
only_func context abstract.Func none enabled is = refl
only_func context abstract.NoFunc none enabled is = absurd (none enabled)
only_func context b none enabled is = cc

func_least : (context : BodyContext) → IsOrderly context.types → (i : ℕ) (q : Bool) (other : HeapType)
    → (IsTrue context.features.gc → ⊥) → IsTop context.types (Concrete i) (Abstract q abstract.Func) → IsHeapValid context other
    → IsBelow context.types (Concrete i) other → IsBelow context.types (Abstract q abstract.Func) other
func_least context o i q (Abstract r b) none is valid below =
    let there : Abstract q abstract.Func ≡ Abstract r (top_kind b) = top_above context.types o (Concrete i) (Abstract r b)
    (Abstract q abstract.Func) below is
    in
    let kinds : top_kind b ≡ abstract.Func = cc in
    let one : b ≡ abstract.Func = only_func context b none valid.0 kinds in
    let shares : q ≡ r = cc in
    subst (λ h. IsBelow context.types (Abstract q abstract.Func) h) (ap (λ k. Abstract q k) (sym one) ∙ ap (λ p. Abstract p b) shares)
    itself
func_least context o i q (Concrete j) none is valid below = absurd (none valid.0)
func_least context o i q (Exact j) none is valid below = absurd (concrete_not_below_exact context.types i j below)

pub function_offer : (context : BodyContext) (i : ℕ) (top : HeapType) → IsScope context → IsOrderly context.types
    → IsFuncTypeIndex context.types i → (IsTrue context.features.gc → ⊥) → IsTop context.types (Concrete i) top
    → IsHeapOffer context (Concrete i) top
function_offer context i top scope o (function, (u, there, of)) none (t, at, is) =
    let same : u ≡ t = same_Some u t (sym there ∙ at) in
    let kinds : top_kind (kind t) ≡ abstract.Func = ap (λ (v : SubType). top_kind (kind v)) (sym same) ∙ ap (λ x. top_kind (kind_of x))
    of in
    let whole : top ≡ Abstract (shared t) abstract.Func = is ∙ ap (λ k. Abstract (shared t) k) kinds in
    let enabled = all_at (IsSubTypeEnabled context.features) context.types i t scope.enabled at in
    record {
      above = below_top context.types (Concrete i) top (t, at, is);
      valid = subst (λ h. IsHeapValid context h) (sym whole) (tt, enabled.shared);
      least = λ other valid below.
          subst (λ h. IsBelow context.types h other) (sym whole)
          (func_least context o i (shared t) other none (t, at, ap (λ k. Abstract (shared t) k) (sym kinds)) valid below);
    }

pub function_heap_own : (context : BodyContext) (i : ℕ) → IsTrue context.features.gc → IsFuncTypeIndex context.types i
    → IsHeapOffer context (Concrete i) (Concrete i)
function_heap_own context i gc (function, (t, at, of)) = own_heap context (Concrete i) (gc, slice_get_within context.types i t at)

pub exact_heap_own : (context : BodyContext) (h : HeapType) → IsFunctionHeap context h → ((i : ℕ) → h ≡ Concrete i → ⊥)
    → IsHeapOffer context h h
exact_heap_own context (Abstract s a) heap never = absurd heap
exact_heap_own context (Concrete i) heap never = absurd (never i refl)
exact_heap_own context (Exact i) (enabled, (function, (t, at, of))) never =
    own_heap context (Exact i) (enabled, slice_get_within context.types i t at)
