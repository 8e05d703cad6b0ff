-- The test of a shared heap type is correct, and types are shared only if that is enabled.
use Rattle.smith_draw_types.proofs.Common.{Abstract, AreTypesValid, Bool, Concrete, Config, Exact, false, features_of, GroupedTypes}
use Rattle.smith_draw_types.proofs.Common.{HeapType, IsHeapTypeShared, IsHeapTypeValid, IsTrue, List, None, Option, refl, slice_get, Some}
use Rattle.smith_draw_types.proofs.Common.{SubType, sym, true, ℕ, ◌↔◌, ◌≡◌}
use Rattle.smith_types.proofs.ValidityLemmas.{AreTypesValid-at}
use Rattle.smith_draw_types.specs.SharedHeapTypes.{is_type_shared, is_heap_type_shared}

type_shared : (types : List SubType) (i : ℕ) (at : Option SubType) → slice_get types i ≡ at → IsTrue (is_type_shared at) → (t : SubType)
    × (slice_get types i ≡ Some t) × IsTrue t.composite_type.shared
type_shared types i (Some t) is on = (t, is, on)
type_shared types i None is on = absurd cc

heap_shared : (types : List SubType) (heap : HeapType) → IsTrue (is_heap_type_shared types heap) → IsHeapTypeShared types heap
heap_shared types (Abstract is_shared ty) on = on
heap_shared types (Concrete index) on = type_shared types index (slice_get types index) refl on
heap_shared types (Exact index) on = type_shared types index (slice_get types index) refl on

test_shared : (types : List SubType) (heap : HeapType) → IsHeapTypeShared types heap → IsTrue (is_heap_type_shared types heap)
test_shared types (Abstract is_shared ty) h = h
test_shared types (Concrete index) (t, at, on) = rw at on
test_shared types (Exact index) (t, at, on) = rw at on

same_truth : (a b : Bool) → (IsTrue a → IsTrue b) → (IsTrue b → IsTrue a) → a ≡ b
same_truth true b to from = sym (to refl)
same_truth false true to from = from refl
same_truth false false to from = refl

-- a decision whether a heap type is shared equals the test
pub decided_shared : (types : List SubType) (heap : HeapType) (b : Bool) → IsTrue b ↔ IsHeapTypeShared types heap
    → b ≡ is_heap_type_shared types heap
decided_shared types heap b decided = same_truth b (is_heap_type_shared types heap) (λ on. test_shared types heap (decided.0 on))
    (λ on. decided.1 (heap_shared types heap on))

type_sharing : (config : Config) (space : GroupedTypes) → AreTypesValid (features_of config) space → (i : ℕ) (t : SubType)
    → slice_get space.types i ≡ Some t → IsTrue t.composite_type.shared → IsTrue config.shared_everything_threads_enabled
type_sharing config space valid i t at on = let (end, h) = AreTypesValid-at (features_of config) space valid i t at in h.enabled.shared on

heap_sharing : (config : Config) (space : GroupedTypes) (end : ℕ) (heap : HeapType) → AreTypesValid (features_of config) space
    → IsHeapTypeValid (features_of config) end heap → IsHeapTypeShared space.types heap → IsTrue config.shared_everything_threads_enabled
heap_sharing config space end (Abstract is_shared ty) valid h on = h.1 on
heap_sharing config space end (Concrete index) valid h (t, at, on) = type_sharing config space valid index t at on
heap_sharing config space end (Exact index) valid h (t, at, on) = type_sharing config space valid index t at on

-- over valid types, a heap type is shared only if that is enabled
pub sharing : (config : Config) (space : GroupedTypes) (end : ℕ) (heap : HeapType) → AreTypesValid (features_of config) space
    → IsHeapTypeValid (features_of config) end heap → IsTrue (is_heap_type_shared space.types heap)
    → IsTrue config.shared_everything_threads_enabled × IsHeapTypeShared space.types heap
sharing config space end heap valid h on = let is = heap_shared space.types heap on in (heap_sharing config space end heap valid h is, is)
