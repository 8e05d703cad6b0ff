-- Whether one type is a subtype of another, as a test over orderly types.
use Rattle.std.specs.Prelude.{ℕ, Bool, true, false, not, ◌&&◌, ◌||◌, ◌==◌, Option, Some, None, List, [], ◌∷◌, slice_get}
use Rattle.std.proofs.Math.Bool.{beq}
use Rattle.smith_draw_types.specs.Common.{Abstract, AbstractHeapType, Concrete, Exact, HeapType, shared, SubType, ValType}
use Rattle.smith_types.specs.Syntax.Kinds.{bottom, kind}
use Rattle.smith_types.specs.Subtyping.{is_abstract_below}
use Rattle.smith_types.specs.Syntax.value_type.ValType.TheVariants.{I32, I64, F32, F64, V128, Ref}
use Rattle.smith_draw_types.specs.Offered.{ancestors}

-- whether the list has the concrete type with this index
abbrev pub names : ℕ → List HeapType → Bool
names index [] = false
names index (Concrete other ∷ types) = (other == index) || names index types
names index (_ ∷ types) = names index types

-- whether the type exists and is a subtype of an abstract type
abbrev pub is_under : Option SubType → Bool → AbstractHeapType → Bool
is_under None is_shared upper = false
is_under (Some t) is_shared upper = beq (shared t) is_shared && is_abstract_below (kind t) upper

-- whether the type exists and the abstract type is its bottom type
abbrev pub is_bottom_of : Option SubType → Bool → AbstractHeapType → Bool
is_bottom_of None is_shared lower = false
is_bottom_of (Some t) is_shared lower = beq is_shared (shared t) && is_abstract_below lower (bottom t)

-- whether one heap type is a subtype of another (Validation, Matching, Heap Types; own rules as in
-- `IsStep`)
unfoldable pub is_heap_below : List SubType → HeapType → HeapType → Bool
is_heap_below types (Abstract s a) (Abstract r b) = beq s r && is_abstract_below a b
is_heap_below types (Abstract s a) (Concrete j) = is_bottom_of (slice_get types j) s a
is_heap_below types (Abstract s a) (Exact j) = is_bottom_of (slice_get types j) s a
is_heap_below types (Concrete i) (Abstract r b) = is_under (slice_get types i) r b
is_heap_below types (Concrete i) (Concrete j) = (i == j) || names j (ancestors types i)
is_heap_below types (Concrete i) (Exact j) = false
is_heap_below types (Exact i) (Abstract r b) = is_under (slice_get types i) r b
is_heap_below types (Exact i) (Concrete j) = (i == j) || names j (ancestors types i)
is_heap_below types (Exact i) (Exact j) = i == j

-- whether one value type is a subtype of another (Validation, Matching, Value Types; own rules as
-- in `IsStep`)
abbrev pub is_val_below : List SubType → ValType → ValType → Bool
is_val_below types I32 I32 = true
is_val_below types I64 I64 = true
is_val_below types F32 F32 = true
is_val_below types F64 F64 = true
is_val_below types V128 V128 = true
is_val_below types (Ref a) (Ref b) = (not a.nullable || b.nullable) && is_heap_below types a.heap_type b.heap_type
is_val_below types _ _ = false
