-- Heap types of references that are converted.
use Rattle.std.proofs.Common.{rules, ◌≡◌, ◌↔◌, Bool, true, false, refl, sym, ◌∙◌, subst}
use Rattle.std.specs.Prelude.{List, IsTrue}
use Rattle.std.proofs.lemmas.Bool.{false≢true}
use Rattle.smith_types.specs.Syntax.Kinds.{bottom_of}
use Rattle.smith_types.specs.Syntax.composite_type.CompositeInnerType.{CompositeInnerType}
use Rattle.smith_types.specs.Syntax.composite_type.SubType.{SubType}
use Rattle.smith_types.specs.Syntax.value_type.AbstractHeapType.{AbstractHeapType}
use Rattle.smith_types.specs.Syntax.value_type.HeapType.{HeapType}
use Rattle.smith_types.specs.Syntax.value_type.HeapType.TheVariants.{Abstract, Concrete, Exact}
use Rattle.smith_types.specs.Syntax.value_type.ValType.{ValType}
use Rattle.smith_types.specs.Syntax.value_type.ValType.TheVariants.{Ref}
use Rattle.smith_types.specs.Expressions.{reference_to}
use Rattle.smith_types.specs.Subtyping.{IsStep, is_abstract_step, IsBelow as IsHeapBelow, IsValBelow, itself, by_step}
use Rattle.smith_instr.specs.Contexts.{BodyContext, IsValid, IsHeapValid}
use Rattle.smith_check_rules.specs.Slots.{IsBelow, IsConvertible}
use Rattle.smith_check_rules.specs.declared.slot.Slot.TheVariants.{EitherRef, Value}

-- the finite tables
no_abstract_step : (a b : AbstractHeapType) → IsTrue (is_abstract_step a b) → IsConvertible a → ⊥
no_abstract_step a b step c = search rules

no_convertible_bottom : (x : CompositeInnerType) → IsConvertible (bottom_of x) → ⊥
no_convertible_bottom x c = search rules

-- nothing else is above a convertible heap type
no_step : (types : List SubType) (s : Bool) (a : AbstractHeapType) (b : HeapType) → IsConvertible a → IsStep types (Abstract s a) b → ⊥
no_step types s a (Abstract r c) convertible (same, step) = no_abstract_step a c step convertible
no_step types s a (Concrete j) convertible (t, at, same, bottoms) =
    no_convertible_bottom t.composite_type.inner (subst IsConvertible bottoms convertible)
no_step types s a (Exact j) convertible (t, at, same, bottoms) =
    no_convertible_bottom t.composite_type.inner (subst IsConvertible bottoms convertible)

pub only_itself : (types : List SubType) {a b : HeapType} (s : Bool) (x : AbstractHeapType) → IsHeapBelow types a b → a ≡ Abstract s x
    → IsConvertible x → b ≡ Abstract s x
only_itself types s x itself is convertible = is
only_itself types s x (by_step {b = b} step below) is convertible =
    absurd (no_step types s x b convertible (subst (λ a. IsStep types a b) is step))

-- without the feature, a valid type above a reference is that of unshared ones
unshared : (on shared : Bool) → on ≡ false → (IsTrue shared → IsTrue on) → shared ≡ false
unshared on false off needs = refl
unshared on true off needs = absurd (false≢true (sym off ∙ needs refl))

below_unshared : (context : BodyContext) (ty : AbstractHeapType) (value : ValType) (shared : Bool)
    → context.features.shared_everything_threads ≡ false → IsConvertible ty → IsValid context value
    → IsValBelow context.types (reference_to (Abstract shared ty)) value → IsValBelow context.types (reference_to (Abstract false ty)) value
below_unshared context ty (Ref upper) shared off convertible valid below =
    let is = only_itself context.types shared ty below.heap refl convertible in
    let heap_valid : IsHeapValid context (Abstract shared ty) = subst (λ h. IsHeapValid context h) is valid.1.heap_type in
    let none : shared ≡ false = unshared context.features.shared_everything_threads shared off heap_valid.1 in
    subst (λ s. IsValBelow context.types (reference_to (Abstract s ty)) (Ref upper)) none below
below_unshared context ty value shared off convertible valid below = absurd below

pub either_unshared : (context : BodyContext) (ty : AbstractHeapType) (value : ValType)
    → context.features.shared_everything_threads ≡ false → IsConvertible ty → IsValid context value
    → IsBelow context.types (EitherRef ty) (Value value) ↔ IsBelow context.types (Value (reference_to (Abstract false ty))) (Value value)
either_unshared context ty value off convertible valid = (
  λ either. below_unshared context ty value either.0 off convertible valid either.1,
  λ below. (false, below),
)
