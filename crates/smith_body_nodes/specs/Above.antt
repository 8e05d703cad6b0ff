-- Types that a reference type matches.
use Rattle.std.specs.Prelude.{ℕ, Bool, true, false, ◌&&◌, Option, Some, None, unwrap_or, List, length, slice_get, if◌then◌else◌}
use Rattle.smith_body_nodes.specs.Common.{BodyContext, choose_at, is_val_below, Ref, SubType, ValType}
use Rattle.smith_bytes.specs.Draws.{bool_at}
use Rattle.smith_types.specs.Syntax.value_type.AbstractHeapType.{AbstractHeapType}
use Rattle.smith_types.specs.Syntax.value_type.AbstractHeapType.TheVariants as abstract
use Rattle.smith_types.specs.Syntax.value_type.HeapType.TheVariants.{Abstract}
use Rattle.smith_types.specs.Syntax.value_type.RefType.{RefType}
use Rattle.smith_body_nodes.specs.Offered.{offered}
use Rattle.smith_body_nodes.specs.Scopes.{indexed}

-- a value type, if it exists and is a reference type
abbrev pub reference_in : Option ValType → Option RefType
reference_in (Some (Ref to)) = Some to
reference_in _ = None

-- a local whose type a reference type matches
abbrev pub is_above_at : List SubType → RefType → Option ValType → Bool
is_above_at types to (Some value) = is_val_below types (Ref to) value
is_above_at types to None = false

abbrev pub is_above : BodyContext → RefType → ℕ → Bool
is_above context to index = is_above_at context.types to (slice_get context.locals index)

-- the nullable form of a reference type
abbrev pub with_null : RefType → RefType
with_null to = record { nullable = true; heap_type = to.heap_type }

-- the type of nullable references to an abstract heap type that is not shared
abbrev pub nullable_type : AbstractHeapType → RefType
nullable_type ty = record { nullable = true; heap_type = Abstract false ty }

-- a reference type matches that type
abbrev pub is_under : BodyContext → RefType → AbstractHeapType → Bool
is_under context to ty = is_val_below context.types (Ref to) (Ref (nullable_type ty))

-- a reference type matches `anyref`, with garbage collection on
abbrev pub is_internal : BodyContext → RefType → Bool
is_internal context to = context.features.gc && is_under context to abstract.Any

-- the top of the hierarchy of a reference type, if it is `any`, `func` or `extern`; else the nullable
-- form of the type
abbrev pub top_above : BodyContext → RefType → RefType
top_above context to =
    if is_internal context to then nullable_type abstract.Any
    else if is_under context to abstract.Func then nullable_type abstract.Func
    else if is_under context to abstract.Extern then nullable_type abstract.Extern
    else with_null to

abbrev pub above_in : BodyContext → RefType → Option ℕ → RefType
above_in context to (Some index) = unwrap_or (reference_in (slice_get context.locals index)) (with_null to)
above_in context to None = top_above context to

-- a type that a reference type matches: that of a local, or the top if there is none
abbrev pub local_above_at : BodyContext → RefType → List ℕ → RefType × List ℕ
local_above_at context to bytes =
    let index = choose_at (offered (is_above context to) (indexed (length context.locals))) bytes in
    (above_in context to index.0, index.1)

-- half of the time the top of the hierarchy, else such a type
abbrev pub above_at : BodyContext → RefType → List ℕ → RefType × List ℕ
above_at context to bytes = let top = bool_at bytes in if top.0 then (top_above context to, top.1) else local_above_at context to top.1
