-- What a value counts as where its own type may not be valid.
use Rattle.smith_check_references.proofs.Common.{BodyContext, Bool, Bottom, EitherRef, false, false≢true, HeapType, Held, IfOk, IsBelow}
use Rattle.smith_check_references.proofs.Common.{IsHeapValid, IsRefBelow, IsRefValid, IsSlotValid, IsTrue, IsValid, itself, not, Ok, Ref}
use Rattle.smith_check_references.proofs.Common.{reference_to, refl, RefType, Slot, SomeRef, subst, sym, true, Value, ◌∙◌, ◌≡◌}
use Rattle.std.specs.Prelude.{Err, Result}
use Rattle.smith_bytes.specs.declared.error.Error.{Error}
use Rattle.smith_instr.proofs.AmongLemmas.{true_from_not}
use Rattle.smith_check_references.proofs.RowLemmas.{given_as}
use Rattle.smith_check_references.specs.Offers.{IsOffer, HasNoOffer, IsOnlyItself, IsHeapOffer, HasNoHeapOffer, IsGiven}

-- a valid type above a reference type
pub record IsAboveRef (context : BodyContext) (reference : RefType) (other : Slot) : Type 0 where
  pub upper : RefType
  pub is : other ≡ Value (Ref upper)
  pub enabled : IsTrue context.features.reference_types
  pub valid : IsRefValid context upper
  pub below : IsRefBelow context.types reference upper

pub above_ref : (context : BodyContext) (reference : RefType) (other : Slot) → IsSlotValid context other
    → IsBelow context.types (Value (Ref reference)) other → IsAboveRef context reference other
above_ref context reference Bottom valid below = absurd below
above_ref context reference SomeRef valid below = absurd below
above_ref context reference (EitherRef ty) valid below = absurd below
above_ref context reference (Value (Ref upper)) valid below =
    record { upper = upper; is = refl; enabled = valid.0; valid = valid.1; below = below }
above_ref context reference (Value value) valid below = absurd below

-- a valid reference type counts as itself, or references are not enabled
pub only_itself : (context : BodyContext) (reference : RefType) → IsRefValid context reference → IsOnlyItself context (Ref reference)
only_itself context reference valid other other_valid below =
    ((above_ref context reference other other_valid below).enabled, valid)

nullable_from : (nullable enabled : Bool) → (nullable ≡ false → IsTrue enabled) → true ≡ not enabled → nullable ≡ true
nullable_from true enabled valid is = refl
nullable_from false true valid is = absurd (false≢true (sym is))
nullable_from false false valid is = absurd (false≢true (valid refl))

-- without non-nullable references a valid reference is nullable
pub must_be_nullable : (context : BodyContext) (reference : RefType) → IsRefValid context reference
    → true ≡ not context.features.function_references → IsTrue reference.nullable
must_be_nullable context reference valid is = nullable_from reference.nullable context.features.function_references valid.nullable is

-- the least valid type of references to a valid heap type, which is nullable if it has to be
pub offered : (context : BodyContext) (nullable : Bool) (heap_type : HeapType) → nullable ≡ not context.features.function_references
    → IsValid context (Ref (record { nullable = nullable; heap_type = heap_type }))
    → IsOffer context (reference_to heap_type) (Ref (record { nullable = nullable; heap_type = heap_type }))
offered context nullable heap_type is valid = record {
  above = record { heap = itself; nullable = λ n. absurd (false≢true n) };
  valid = valid;
  least = λ other other_valid below.
      let a = above_ref context (record { nullable = false; heap_type = heap_type }) other other_valid below in
      subst (λ s. IsBelow context.types (Value (Ref (record { nullable = nullable; heap_type = heap_type }))) s) (sym a.is) (record {
        heap = a.below.heap;
        nullable = λ n. must_be_nullable context a.upper a.valid (sym n ∙ is);
      });
}

pub not_offered : (context : BodyContext) (nullable : Bool) (heap_type : HeapType) → nullable ≡ not context.features.function_references
    → IsHeapValid context heap_type
    → (IsValid context (Ref (record { nullable = nullable; heap_type = heap_type })) → ⊥) → HasNoOffer context (reference_to heap_type)
not_offered context nullable heap_type is valid never other other_valid below =
    let a = above_ref context (record { nullable = false; heap_type = heap_type }) other other_valid below in
    never (a.enabled, record { heap_type = valid; nullable = λ n. true_from_not context.features.function_references (sym is ∙ n) })

-- a value that is put on the stack as a reference to its least valid heap type
heap_least : (context : BodyContext) (heap_type least : HeapType) → IsHeapOffer context heap_type least → (other : Slot)
    → IsSlotValid context other → IsBelow context.types (Value (reference_to heap_type)) other
    → IsBelow context.types (Value (reference_to least)) other
heap_least context heap_type least heap other valid below =
    let a = above_ref context (record { nullable = false; heap_type = heap_type }) other valid below in
    subst (λ s. IsBelow context.types (Value (reference_to least)) s) (sym a.is)
    (record { heap = heap.least a.upper.heap_type a.valid.heap_type a.below.heap; nullable = a.below.nullable })

given_by_heap : (context : BodyContext) (heap_type least : HeapType) (there : Bool) (old new : Held) → IsHeapOffer context heap_type least
    → IsGiven context (reference_to least) there old new → IsGiven context (reference_to heap_type) there old new
given_by_heap context heap_type least true old new heap pushes =
    given_as context (reference_to heap_type) (reference_to least) old new (record { heap = heap.above; nullable = λ n. n })
    (heap_least context heap_type least heap) pushes
given_by_heap context heap_type least false old new heap never = λ other valid below.
    never other valid (heap_least context heap_type least heap other valid below)

pub given_by_heap_result : (context : BodyContext) (heap_type least : HeapType) (old new : Held) (r : Result Bool Error)
    → IsHeapOffer context heap_type least → IfOk r (λ there. IsGiven context (reference_to least) there old new)
    → IfOk r (λ there. IsGiven context (reference_to heap_type) there old new)
given_by_heap_result context heap_type least old new (Ok there) heap given = given_by_heap context heap_type least there old new heap given
given_by_heap_result context heap_type least old new (Err e) heap given = tt

-- no valid heap type is above a heap type, so no reference to it counts as one of a valid type
pub without_heap : (context : BodyContext) (heap_type : HeapType) → HasNoHeapOffer context heap_type
    → HasNoOffer context (reference_to heap_type)
without_heap context heap_type never other valid below =
    let a = above_ref context (record { nullable = false; heap_type = heap_type }) other valid below in
    never a.upper.heap_type a.valid.heap_type a.below.heap

-- a valid heap type is the least one above itself
pub own_heap : (context : BodyContext) (heap_type : HeapType) → IsHeapValid context heap_type → IsHeapOffer context heap_type heap_type
own_heap context heap_type valid = record { above = itself; valid = valid; least = λ other other_valid below. below }
