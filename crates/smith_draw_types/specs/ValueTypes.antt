-- Drawn value, reference and heap types, over the existing types below a limit of indices.
use Rattle.std.specs.Prelude.{ℕ, ◌-◌, Bool, true, false, not, ◌&&◌, ◌||◌, nat_lt, Option, Some, None, List, [], ◌∷◌, slice_get}
use Rattle.std.specs.Prelude.{if◌then◌else◌}
use Rattle.smith_draw_types.specs.Common.{Abstract, AbstractHeapType, bool_at, Concrete, Config, Context, HeapType, range_at, ratio_at}
use Rattle.smith_draw_types.specs.Common.{RefType, shared, SubType, ValType}
use Rattle.smith_types.specs.Syntax.value_type.ValType.TheVariants as vals
use Rattle.smith_types.specs.Syntax.value_type.AbstractHeapType.TheVariants as heap
use Rattle.smith_draw_types.specs.declared.value_type.ValueClass.{ValueClass}
use Rattle.smith_draw_types.specs.declared.value_type.ValueClass.TheVariants.{I32, I64, F32, F64, V128, Reference}
use Rattle.smith_draw_types.specs.Choices.{enabled, chosen_at}
use Rattle.smith_draw_types.specs.Grounding.{is_grounded}

-- the classes of value types, each with whether it is enabled (own rule)
abbrev pub value_classes : Config → List (ValueClass × Bool)
value_classes config =
    (I32, true) ∷ ((I64, true)
    ∷ ((F32, config.allow_floats) ∷ ((F64, config.allow_floats)
    ∷ ((V128, config.simd_enabled) ∷ ((Reference, config.reference_types_enabled) ∷ [])))))

-- the abstract heap types, each with whether it is enabled (own rule)
abbrev pub abstract_heap_types : Config → List (AbstractHeapType × Bool)
abstract_heap_types config =
    (heap.Func, true) ∷ (heap.Extern, true) ∷ (heap.Exn, config.exceptions_enabled) ∷
    (heap.Any, config.gc_enabled) ∷ (heap.None, config.gc_enabled) ∷
    (heap.NoExtern, config.gc_enabled) ∷ (heap.NoFunc, config.gc_enabled) ∷
    (heap.Eq, config.gc_enabled) ∷ (heap.Struct, config.gc_enabled) ∷
    (heap.Array, config.gc_enabled) ∷ (heap.I31, config.gc_enabled) ∷ []

-- whether a type is shared: always if it must be, and else in one of four cases, if it may be (own
-- rule)
unfoldable pub sharedness_at : Config → Bool → List ℕ → Bool × List ℕ
sharedness_at config must_share bytes =
    if must_share then (true, bytes)
    else (if config.shared_everything_threads_enabled then ratio_at 1 4 bytes else (false, bytes))

-- an abstract heap type: its sharedness, then one of the enabled types (own rule)
unfoldable pub abstract_heap_type_at : Config → Bool → List ℕ → HeapType × List ℕ
abstract_heap_type_at config must_share bytes =
    let is_shared = sharedness_at config must_share bytes in
    let ty = chosen_at heap.Func (enabled (abstract_heap_types config)) is_shared.1 in
    (Abstract is_shared.0 ty.0, ty.1)

-- whether to use a type index: with garbage collection, if there is a type below the limit (own
-- rule)
abbrev pub index_wanted_at : Config → ℕ → List ℕ → Bool × List ℕ
index_wanted_at config limit bytes =
    if config.gc_enabled && nat_lt 0 limit then bool_at bytes else (false, bytes)

-- the index of a type that exists and is shared if it must be, or nothing (own rule)
abbrev pub kept_index : Bool → ℕ → Option SubType → Option ℕ
kept_index must_share index None = None
kept_index must_share index (Some t) = if not must_share || shared t then Some index else None

-- a type index below the limit, if a drawn bool is true and the type suits (own rule)
unfoldable pub type_index_at : Config → List SubType → Bool → ℕ → List ℕ → Option ℕ × List ℕ
type_index_at config types must_share limit bytes =
    let wanted = index_wanted_at config limit bytes in
    let index = range_at 0 (limit - 1) wanted.1 in
    if wanted.0 then (kept_index must_share index.0 (slice_get types index.0), index.1) else (None, wanted.1)

-- the concrete heap type of a type index, or an abstract heap type without one (own rule)
abbrev pub heap_type_of_at : Config → Bool → Option ℕ → List ℕ → HeapType × List ℕ
heap_type_of_at config must_share (Some index) bytes = (Concrete index, bytes)
heap_type_of_at config must_share None bytes = abstract_heap_type_at config must_share bytes

-- a heap type, concrete or abstract (own rule)
unfoldable pub heap_type_at : Config → List SubType → Bool → ℕ → List ℕ → HeapType × List ℕ
heap_type_at config types must_share limit bytes =
    let index = type_index_at config types must_share limit bytes in
    heap_type_of_at config must_share index.0 index.1

-- whether a reference is non-nullable: with `non_nullable_enabled`, if a drawn bool is true and the
-- heap type is grounded (own rule)
unfoldable pub granted_at : Config → Context → HeapType → List ℕ → Bool × List ℕ
granted_at config context ty bytes =
    let wanted = bool_at bytes in
    if config.non_nullable_enabled then (wanted.0 && is_grounded context ty, wanted.1) else (false, bytes)

-- a heap type, then whether the reference is nullable; without reference types, `funcref` without a
-- draw (own rule)
unfoldable pub ref_type_at : Config → Context → Bool → ℕ → List ℕ → RefType × List ℕ
ref_type_at config context must_share limit bytes =
    let ty = heap_type_at config context.types must_share limit bytes in
    let granted = granted_at config context ty.0 ty.1 in
    if config.reference_types_enabled then (record { nullable = not granted.0; heap_type = ty.0 }, granted.1)
    else (record { nullable = true; heap_type = Abstract false heap.Func }, bytes)

-- a value type of a class (own rule)
abbrev pub value_of_class_at : Config → Context → Bool → ℕ → ValueClass → List ℕ → ValType × List ℕ
value_of_class_at config context must_share limit I32 bytes = (vals.I32, bytes)
value_of_class_at config context must_share limit I64 bytes = (vals.I64, bytes)
value_of_class_at config context must_share limit F32 bytes = (vals.F32, bytes)
value_of_class_at config context must_share limit F64 bytes = (vals.F64, bytes)
value_of_class_at config context must_share limit V128 bytes = (vals.V128, bytes)
value_of_class_at config context must_share limit Reference bytes =
    let reference = ref_type_at config context must_share limit bytes in (vals.Ref reference.0, reference.1)

-- a value type: its class, then a value type of that class (own rule)
unfoldable pub val_type_at : Config → Context → Bool → ℕ → List ℕ → ValType × List ℕ
val_type_at config context must_share limit bytes =
    let class = chosen_at I32 (enabled (value_classes config)) bytes in
    value_of_class_at config context must_share limit class.0 class.1
