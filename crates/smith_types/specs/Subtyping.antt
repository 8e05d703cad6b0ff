-- Subtyping of heap, reference and value types. Sections are those of the WebAssembly Core
-- Specification 3.0. Sharedness and exact types follow rules of this project. So does type
-- equivalence: types of equal groups are different, so that fewer types are subtypes than in the
-- standard.
use Rattle.std.specs.Prelude.{◌≡◌, ◌<◌, Bool, true, false, IsTrue, List, length, Some, slice_get}
use Rattle.smith_types.specs.Common.{Abstract, AbstractHeapType, Concrete, Exact, F32, F64, HeapType, I32, I64, Ref, RefType, shared}
use Rattle.smith_types.specs.Common.{SubType, V128, ValType}
use Rattle.smith_syntax.specs.declared.value_type.AbstractHeapType.TheVariants.{Func, Extern, Any, None, NoExtern, NoFunc, Eq, Struct}
use Rattle.smith_syntax.specs.declared.value_type.AbstractHeapType.TheVariants.{Array, I31, Exn, NoExn}
use Rattle.smith_syntax.specs.Kinds.{bottom, kind}

-- one abstract heap type is directly below another (Validation, Matching, Heap Types)
abbrev pub is_abstract_step : AbstractHeapType → AbstractHeapType → Bool
is_abstract_step Eq Any = true
is_abstract_step I31 Eq = true
is_abstract_step Struct Eq = true
is_abstract_step Array Eq = true
is_abstract_step None I31 = true
is_abstract_step None Struct = true
is_abstract_step None Array = true
is_abstract_step NoFunc Func = true
is_abstract_step NoExtern Extern = true
is_abstract_step NoExn Exn = true
is_abstract_step _ _ = false

-- One heap type is directly below another (Validation, Matching, Heap Types). An abstract type is
-- below as `is_abstract_step` states. A concrete type is below its declared supertype and the
-- abstract type of its kind, and above its bottom type. Both types are shared or neither is, and an
-- exact type is directly below only the concrete type with its index, and above only its bottom
-- type (own rules).
abbrev pub IsStep : List SubType → HeapType → HeapType → Type 0
IsStep types (Abstract s a) (Abstract r b) = (s ≡ r) × IsTrue (is_abstract_step a b)
IsStep types (Abstract s a) (Concrete j) = (t : SubType) × (slice_get types j ≡ Some t) × (s ≡ shared t) × (a ≡ bottom t)
IsStep types (Abstract s a) (Exact j) = (t : SubType) × (slice_get types j ≡ Some t) × (s ≡ shared t) × (a ≡ bottom t)
IsStep types (Concrete i) (Abstract r b) = (t : SubType) × (slice_get types i ≡ Some t) × (shared t ≡ r) × (kind t ≡ b)
IsStep types (Concrete i) (Concrete j) = (t : SubType) × (slice_get types i ≡ Some t) × (t.supertype ≡ Some j)
IsStep types (Concrete i) (Exact j) = ⊥
IsStep types (Exact i) (Abstract r b) = ⊥
IsStep types (Exact i) (Concrete j) = i ≡ j
IsStep types (Exact i) (Exact j) = ⊥

-- one heap type is a subtype of another: the reflexive, transitive closure of `IsStep` (Validation,
-- Matching, Heap Types); types of equal groups are different (own rule)
pub data IsBelow (types : List SubType) : HeapType → HeapType → Type 0 where
  itself : {a : HeapType} → IsBelow types a a
  by_step : {a b c : HeapType} → IsStep types a b → IsBelow types b c → IsBelow types a c

-- one reference type is a subtype of another (Validation, Matching, Reference Types)
pub record IsRefBelow (types : List SubType) (a b : RefType) : Type 0 where
  pub heap : IsBelow types a.heap_type b.heap_type
  pub nullable : IsTrue a.nullable → IsTrue b.nullable

-- one value type is a subtype of another; number and vector types only of themselves (Validation,
-- Matching, Value Types)
abbrev pub IsValBelow : List SubType → ValType → ValType → Type 0
IsValBelow types I32 I32 = Unit {0}
IsValBelow types I64 I64 = Unit {0}
IsValBelow types F32 F32 = Unit {0}
IsValBelow types F64 F64 = Unit {0}
IsValBelow types V128 V128 = Unit {0}
IsValBelow types (Ref a) (Ref b) = IsRefBelow types a b
IsValBelow types _ _ = ⊥

-- the type that a heap type refers to exists (own rule)
abbrev pub IsInRange : List SubType → HeapType → Type 0
IsInRange types (Abstract s a) = Unit {0}
IsInRange types (Concrete i) = i < length types
IsInRange types (Exact i) = i < length types

-- the type that a value type refers to exists (own rule)
abbrev pub IsValInRange : List SubType → ValType → Type 0
IsValInRange types (Ref r) = IsInRange types r.heap_type
IsValInRange types _ = Unit {0}

-- whether one abstract heap type is a subtype of another: the closure of the steps, as a table
-- (Validation, Matching, Heap Types)
abbrev pub is_abstract_below : AbstractHeapType → AbstractHeapType → Bool
is_abstract_below Func Func = true
is_abstract_below Extern Extern = true
is_abstract_below Any Any = true
is_abstract_below None None = true
is_abstract_below NoExtern NoExtern = true
is_abstract_below NoFunc NoFunc = true
is_abstract_below Eq Eq = true
is_abstract_below Struct Struct = true
is_abstract_below Array Array = true
is_abstract_below I31 I31 = true
is_abstract_below Exn Exn = true
is_abstract_below NoExn NoExn = true
is_abstract_below Eq Any = true
is_abstract_below I31 Eq = true
is_abstract_below I31 Any = true
is_abstract_below Struct Eq = true
is_abstract_below Struct Any = true
is_abstract_below Array Eq = true
is_abstract_below Array Any = true
is_abstract_below None I31 = true
is_abstract_below None Struct = true
is_abstract_below None Array = true
is_abstract_below None Eq = true
is_abstract_below None Any = true
is_abstract_below NoFunc Func = true
is_abstract_below NoExtern Extern = true
is_abstract_below NoExn Exn = true
is_abstract_below _ _ = false
