-- References to functions that may be named.
use Rattle.smith_body_leaves.proofs.Common.{ap, BodyContext, Bool, Concrete, Exact, false, get_or, if◌then◌else◌, is_named, is_reference}
use Rattle.smith_body_leaves.proofs.Common.{is_val_below, IsOrderly, IsValBelow, length, List, None, Option, reference_to_function, refl}
use Rattle.smith_body_leaves.proofs.Common.{slice_get, slice_get-get_or, Some, subst, SubType, sym, tested, true, ValType, ℕ, ◌<◌, ◌∙◌, ◌≡◌}
use Rattle.smith_body_leaves.proofs.Common.{◌≤◌}
use Rattle.std.specs.Prelude.{All}
use Rattle.std.proofs.lemmas.Option.{get_or_from_slice_get, slice_get_past, slice_get_within}
use Rattle.smith_types.specs.Entities.{IsFuncTypeIndex}
use Rattle.smith_types.specs.Expressions.{reference_to}
use Rattle.smith_types.specs.Subtyping.{IsValInRange}
use Rattle.smith_body_nodes.specs.Offered.{is_reference_at, IsReferenceTo}

chosen_in_range : (types : List SubType) (index : ℕ) → index < length types → (a b : Bool)
    → IsValInRange types (if a then reference_to (if b then Exact index else Concrete index) else reference_to (Concrete index))
chosen_in_range types index h true true = h
chosen_in_range types index h true false = h
chosen_in_range types index h false b = h

-- the type of an existing function is in range
pub function_in_range : (context : BodyContext) (function d : ℕ) → All (IsFuncTypeIndex context.types) context.funcs
    → function < length context.funcs
    → IsValInRange context.types (reference_to_function context function (get_or context.funcs function d))
function_in_range context function d valid inside =
    let (ty, (t, at, is)) = valid function d inside in
    chosen_in_range context.types (get_or context.funcs function d) (slice_get_within context.types (get_or context.funcs function d) t at)
    _ _

pub named_tested : (context : BodyContext) (wanted : ValType) (function d : ℕ) (value : ValType) (r : Bool)
    → function < length context.funcs → value ≡ reference_to_function context function (get_or context.funcs function d)
    → r ≡ is_val_below context.types value wanted → r ≡ is_named context wanted (Some function)
named_tested context wanted function d value r inside is tested =
    tested ∙ (ap (λ (v : ValType). is_val_below context.types v wanted) is
    ∙ sym (ap (λ (o : Option ℕ). is_reference_at context wanted function o) (slice_get-get_or context.funcs function d inside)))

pub named_past : (context : BodyContext) (wanted : ValType) (function : ℕ) → length context.funcs ≤ function
    → false ≡ is_named context wanted (Some function)
named_past context wanted function past =
    sym (ap (λ (o : Option ℕ). is_reference_at context wanted function o) (slice_get_past context.funcs function past))

at_option : (context : BodyContext) (wanted : ValType) (function : ℕ) (o : Option ℕ) → IsOrderly context.types
    → slice_get context.funcs function ≡ o → is_reference_at context wanted function o ≡ true
    → (index : ℕ) × (slice_get context.funcs function ≡ Some index) × IsValBelow context.types
    (reference_to_function context function index) wanted
at_option context wanted function (Some index) orderly at is =
    (index, at, tested context.types orderly (reference_to_function context function index) wanted is)
at_option context wanted function None orderly at is = cc

named_option : (context : BodyContext) (wanted : ValType) (place : ℕ) (o : Option ℕ) → IsOrderly context.types
    → slice_get context.references place ≡ o → is_named context wanted o ≡ true
    → IsReferenceTo context wanted (get_or context.references place 0)
named_option context wanted place (Some function) orderly at is =
    let (index, there, below) = at_option context wanted function (slice_get context.funcs function) orderly refl is in
    let same : get_or context.references place 0 ≡ function = get_or_from_slice_get context.references place function 0 at in
    subst (IsReferenceTo context wanted) (sym same) (
      index,
      there,
      (
        place,
        slice_get_within context.references place function at,
        get_or_from_slice_get context.references place function
            function at,
      ),
      below,
    )
named_option context wanted place None orderly at is = cc

pub reference_there : (context : BodyContext) (wanted : ValType) (place : ℕ) → IsOrderly context.types → is_reference context wanted place
    ≡ true → IsReferenceTo context wanted (get_or context.references place 0)
reference_there context wanted place orderly is = named_option context wanted place (slice_get context.references place) orderly refl is
