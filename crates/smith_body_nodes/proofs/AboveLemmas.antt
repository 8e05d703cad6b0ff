-- Types that a reference type matches.
use Rattle.smith_body_nodes.proofs.Common.{Abstract, ap, BodyContext, choose_at, F32, F64, false, get_or, I32, I64, is_val_below, IsOrderly}
use Rattle.smith_body_nodes.proofs.Common.{IsValid, length, List, None, Option, Ref, refl, RefType, slice_get-get_or, Some, subst, SubType}
use Rattle.smith_body_nodes.proofs.Common.{true, V128, ValType, ℕ, ◌<◌, ◌∙◌, ◌≡◌}
use Rattle.std.specs.Prelude.{unwrap_or}
use Rattle.smith_bytes.specs.Draws.{bool_at}
use Rattle.smith_types.specs.Subtyping.{IsRefBelow, itself}
use Rattle.smith_types.specs.Syntax.value_type.AbstractHeapType.{AbstractHeapType}
use Rattle.smith_types.specs.Syntax.value_type.AbstractHeapType.TheVariants as abstract
use Rattle.smith_body_nodes.specs.Above.{above_at, above_in, is_above, is_above_at, is_internal, is_under, local_above_at, nullable_type}
use Rattle.smith_body_nodes.specs.Above.{reference_in, top_above, with_null}
use Rattle.smith_body_nodes.specs.Offered.{offered}
use Rattle.smith_body_nodes.specs.Scopes.{indexed}
use Rattle.smith_body_nodes.proofs.OfferLemmas.{both, tested}
use Rattle.smith_body_nodes.proofs.ReferenceChoiceLemmas.{extern_valid, func_valid, nullable_valid}

-- a reference type matches its nullable form
pub null_above : (types : List SubType) (to : RefType) → IsRefBelow types to (with_null to)
null_above types to = record { heap = itself; nullable = λ h. refl }

pub null_valid : (context : BodyContext) (to : RefType) → IsValid context (Ref to) → IsValid context (Ref (with_null to))
null_valid context to valid = nullable_valid context to.heap_type valid.0 valid.1.heap_type

-- the top of the hierarchy of a reference type
pub any_ref_valid : (context : BodyContext) (to : RefType) → IsValid context (Ref to) → is_internal context to ≡ true
    → IsValid context (Ref (nullable_type abstract.Any))
any_ref_valid context to valid is = nullable_valid context (Abstract false abstract.Any) valid.0
    ((both context.features.gc (is_under context to abstract.Any) is).0, λ h. cc)

pub any_above : (context : BodyContext) (to : RefType) → IsOrderly context.types → is_internal context to ≡ true
    → IsRefBelow context.types to (nullable_type abstract.Any)
any_above context to orderly is = tested context.types orderly (Ref to) (Ref (nullable_type abstract.Any))
    (both context.features.gc (is_under context to abstract.Any) is).1

pub func_ref_valid : (context : BodyContext) (to : RefType) → IsValid context (Ref to) → IsValid context (Ref (nullable_type abstract.Func))
func_ref_valid context to valid = nullable_valid context (Abstract false abstract.Func) valid.0 (func_valid context)

pub extern_ref_valid : (context : BodyContext) (to : RefType) → IsValid context (Ref to)
    → IsValid context (Ref (nullable_type abstract.Extern))
extern_ref_valid context to valid = nullable_valid context (Abstract false abstract.Extern) valid.0 (extern_valid context)

pub under_below : (context : BodyContext) (to : RefType) (ty : AbstractHeapType) → IsOrderly context.types → is_under context to ty ≡ true
    → IsRefBelow context.types to (nullable_type ty)
under_below context to ty orderly is = tested context.types orderly (Ref to) (Ref (nullable_type ty)) is

pub top_any : (context : BodyContext) (to : RefType) → is_internal context to ≡ true → top_above context to ≡ nullable_type abstract.Any
top_any context to is = rw is refl

pub top_func : (context : BodyContext) (to : RefType) → is_internal context to ≡ false → is_under context to abstract.Func ≡ true
    → top_above context to ≡ nullable_type abstract.Func
top_func context to other is = rw (other, is) refl

pub top_extern : (context : BodyContext) (to : RefType) → is_internal context to ≡ false → is_under context to abstract.Func ≡ false
    → is_under context to abstract.Extern ≡ true → top_above context to ≡ nullable_type abstract.Extern
top_extern context to other another is = rw (other, another, is) refl

pub top_none : (context : BodyContext) (to : RefType) → is_internal context to ≡ false → is_under context to abstract.Func ≡ false
    → is_under context to abstract.Extern ≡ false → top_above context to ≡ with_null to
top_none context to other another third = rw (other, another, third) refl

-- the type of a local, or the nullable form
pub read_valid : (context : BodyContext) (value : ValType) (to : RefType) → IsValid context value → IsValid context (Ref to)
    → IsValid context (Ref (unwrap_or (reference_in (Some value)) (with_null to)))
read_valid context (Ref from) to valid valid' = valid
read_valid context I32 to valid valid' = null_valid context to valid'
read_valid context I64 to valid valid' = null_valid context to valid'
read_valid context F32 to valid valid' = null_valid context to valid'
read_valid context F64 to valid valid' = null_valid context to valid'
read_valid context V128 to valid valid' = null_valid context to valid'

read_below : (types : List SubType) (value : ValType) (to : RefType) → IsOrderly types → is_val_below types (Ref to) value ≡ true
    → IsRefBelow types to (unwrap_or (reference_in (Some value)) (with_null to))
read_below types (Ref from) to orderly is = tested types orderly (Ref to) (Ref from) is
read_below types I32 to orderly is = null_above types to
read_below types I64 to orderly is = null_above types to
read_below types F32 to orderly is = null_above types to
read_below types F64 to orderly is = null_above types to
read_below types V128 to orderly is = null_above types to

pub read_above : (context : BodyContext) (to : RefType) (index : ℕ) (d : ValType) → IsOrderly context.types → index < length context.locals
    → is_above context to index ≡ true
    → IsRefBelow context.types to (unwrap_or (reference_in (Some (get_or context.locals index d))) (with_null to))
read_above context to index d orderly inside is =
    read_below context.types (get_or context.locals index d) to orderly
    (subst (λ (o : Option ValType). is_above_at context.types to o ≡ true) (slice_get-get_or context.locals index d inside) is)

-- the drawn type that a reference type matches
pub local_above_none : (context : BodyContext) (to : RefType) (bytes left : List ℕ)
    → choose_at (offered (is_above context to) (indexed (length context.locals))) bytes ≡ (None, left) → local_above_at context to bytes
    ≡ (top_above context to, left)
local_above_none context to bytes left drawn = ap (λ (d : Option ℕ × List ℕ). (above_in context to d.0, d.1)) drawn

pub local_above_some : (context : BodyContext) (to : RefType) (bytes left : List ℕ) (index : ℕ) (d : ValType)
    → choose_at (offered (is_above context to) (indexed (length context.locals))) bytes ≡ (Some index, left) → index < length context.locals
    → local_above_at context to bytes ≡ (unwrap_or (reference_in (Some (get_or context.locals index d))) (with_null to), left)
local_above_some context to bytes left index d drawn inside =
    ap (λ (d : Option ℕ × List ℕ). (above_in context to d.0, d.1)) drawn
    ∙ ap (λ (o : Option ValType). (unwrap_or (reference_in o) (with_null to), left)) (slice_get-get_or context.locals index d inside)

pub above_top : (context : BodyContext) (to : RefType) (bytes left : List ℕ) → bool_at bytes ≡ (true, left) → above_at context to bytes
    ≡ (top_above context to, left)
above_top context to bytes left drawn = rw drawn refl

pub above_local : (context : BodyContext) (to : RefType) (bytes left : List ℕ) → bool_at bytes ≡ (false, left) → above_at context to bytes
    ≡ local_above_at context to left
above_local context to bytes left drawn = rw drawn refl
