-- Heap types that exist because a subtype or supertype does.
use Rattle.smith_types.proofs.Common.{Abstract, arith, Concrete, Exact, HeapType, length, List, slice_get_within, subst, SubType, sym, ℕ}
use Rattle.smith_types.proofs.Common.{◌<◌}
use Rattle.smith_types.specs.Types.{IsOrderly}
use Rattle.smith_types.specs.Subtyping.{IsStep, IsBelow, itself, by_step, IsInRange}

step_stands : (types : List SubType) (a b : HeapType) → IsStep types a b → IsInRange types b → IsInRange types a
step_stands types (Abstract s a) b step h = tt
step_stands types (Concrete i) (Abstract r b) (t, at, p, q) h = slice_get_within types i t at
step_stands types (Concrete i) (Concrete j) (t, at, sup) h = slice_get_within types i t at
step_stands types (Exact i) (Concrete j) same h = subst (λ (n : ℕ). n < length types) (sym same) h
step_stands types (Concrete i) (Exact j) step h = absurd step
step_stands types (Exact i) (Abstract r b) step h = absurd step
step_stands types (Exact i) (Exact j) step h = absurd step

-- a subtype of an existing heap type exists
pub below_stands : (types : List SubType) (a b : HeapType) → IsBelow types a b → IsInRange types b → IsInRange types a
below_stands types a b itself h = h
below_stands types a c (by_step {b = b} step below) h = step_stands types a b step (below_stands types b c below h)

step_up_stands : (types : List SubType) → IsOrderly types → (a b : HeapType) → IsStep types a b → IsInRange types a → IsInRange types b
step_up_stands types orderly a (Abstract r b) step h = tt
step_up_stands types orderly (Abstract s a) (Concrete j) (t, at, p, q) h = slice_get_within types j t at
step_up_stands types orderly (Abstract s a) (Exact j) (t, at, p, q) h = slice_get_within types j t at
step_up_stands types orderly (Concrete i) (Concrete j) (t, at, sup) h = let before : j < i = (orderly.under i j t at sup).0 in omega arith
step_up_stands types orderly (Exact i) (Concrete j) same h = subst (λ (n : ℕ). n < length types) same h
step_up_stands types orderly (Concrete i) (Exact j) step h = absurd step
step_up_stands types orderly (Exact i) (Exact j) step h = absurd step

-- a supertype of an existing heap type exists
pub above_stands : (types : List SubType) → IsOrderly types → (a b : HeapType) → IsBelow types a b → IsInRange types a → IsInRange types b
above_stands types orderly a b itself h = h
above_stands types orderly a c (by_step {b = b} step below) h = above_stands types orderly b c below
    (step_up_stands types orderly a b step h)
