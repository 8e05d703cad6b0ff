-- A grounded heap type stays grounded as types and functions are added.
use Rattle.smith_types.proofs.Common.{ap, arith, Bool, Concrete, Exact, Features, HeapType, if◌then◌else◌, inl, inr, length, length-append}
use Rattle.smith_types.proofs.Common.{List, refl, slice_get, slice_get_within, Some, subst, SubType, sym, ValType, ℕ, ◌++◌, ◌+◌, ◌<◌, ◌∙◌}
use Rattle.smith_types.proofs.Common.{◌≡◌}
use Rattle.std.specs.Prelude.{nat_le}
use Rattle.std.proofs.lemmas.Bool.{lt-leb}
use Rattle.smith_types.specs.Subtyping.{IsValBelow}
use Rattle.smith_types.specs.Expressions.{Context, reference_to, function_reference}
use Rattle.smith_types.specs.Grounded.{IsGroundedByStructs, IsGroundedByFuncs, IsGrounded}
use Rattle.smith_types.specs.Grown.{Extends, IsContextGrown, AreImportsGrown}
use Rattle.smith_types.proofs.ListLemmas.{slice_get-grown}
use Rattle.smith_types.proofs.GrowthLemmas.{IsBelow-grown, IsValBelow-grown}

by_structs_grown : (types more : List SubType) (descriptors : Bool) (heap_type : HeapType) → IsGroundedByStructs types descriptors heap_type
    → IsGroundedByStructs (types ++ more) descriptors heap_type
by_structs_grown types more descriptors heap_type (index, g) =
    let (t, at, is) = g.struct in (
      index,
      record {
        fields = g.fields;
        struct = (t, slice_get-grown types more index t at, is);
        defaults = g.defaults;
        below = IsBelow-grown types more g.below;
      },
    )

-- a context with more types and functions, in which the reference of each function is unchanged
module _ (old new : Context) (features : new.features ≡ old.features) (types : Extends old.types new.types)
    (funcs : Extends old.funcs new.funcs) (same : (function index : ℕ) → function < length old.funcs → function_reference old function index
    ≡ function_reference new function index) (heap_type : HeapType) where
  structs_grown : IsGroundedByStructs old.types old.features.custom_descriptors heap_type
      → IsGroundedByStructs new.types new.features.custom_descriptors heap_type
  structs_grown h =
      subst (λ xs. IsGroundedByStructs xs new.features.custom_descriptors heap_type) (sym types.parts)
      (subst (λ (f : Features). IsGroundedByStructs (old.types ++ types.more) f.custom_descriptors heap_type) (sym features)
      (by_structs_grown old.types types.more old.features.custom_descriptors heap_type h))

  funcs_grown : IsGroundedByFuncs old heap_type → IsGroundedByFuncs new heap_type
  funcs_grown (function, index, at, below) = (
    function,
    index,
    subst (λ (l : List ℕ). slice_get l function ≡ Some index) (sym funcs.parts) (slice_get-grown old.funcs funcs.more function index at),
    subst (λ (v : ValType). IsValBelow new.types v (reference_to heap_type))
        (same function index (slice_get_within old.funcs function index at))
        (subst (λ xs. IsValBelow xs (function_reference old function index) (reference_to heap_type)) (sym types.parts)
        (IsValBelow-grown old.types types.more (function_reference old function index) (reference_to heap_type) below)),
  )

  grounded_grown : IsGrounded old heap_type → IsGrounded new heap_type
  grounded_grown (inl h) = inl (structs_grown h)
  grounded_grown (inr h) = inr (funcs_grown h)

pub context_grounded : (old new : Context) (heap_type : HeapType) → IsContextGrown old new → IsGrounded old heap_type
    → IsGrounded new heap_type
context_grounded old new heap_type growth h =
    grounded_grown old new growth.features growth.types growth.funcs
    (λ function index inside. sym (λ i. if nat_le (growth.imported_funcs i) function then reference_to
    (if (growth.features i).custom_descriptors then Exact index else Concrete index) else reference_to (Concrete index)))
    heap_type h

pub import_pushes : (context : Context) (function index : ℕ) → function < context.imported_funcs → function_reference context function index
    ≡ reference_to (Concrete index)
import_pushes context function index inside = rw (lt-leb context.imported_funcs function inside) refl

pub imports_grounded : (old new : Context) (heap_type : HeapType) → AreImportsGrown old new → IsGrounded old heap_type
    → IsGrounded new heap_type
imports_grounded old new heap_type growth h =
    grounded_grown old new growth.features growth.types growth.funcs
    (λ function index inside.
    let before : function < old.imported_funcs = let is = growth.imported in omega (arith, inside, is) in
    let longer : length new.funcs ≡ length old.funcs + length growth.funcs.more = ap length growth.funcs.parts ∙ length-append old.funcs
    growth.funcs.more in
    let after : function < new.imported_funcs = let is = growth.still_imported in omega (arith, inside, is, longer) in
    import_pushes old function index before ∙ sym (import_pushes new function index after))
    heap_type h
