-- The tops of the hierarchies of heap types: the section Validation, Matching, Heap Types, of the
-- WebAssembly Core Specification 3.0. A hierarchy is shared or not (own rule).
use Rattle.std.specs.Prelude.{◌≡◌, IsTrue, List, Some, slice_get}
use Rattle.smith_types.specs.Syntax.Kinds.{kind, shared}
use Rattle.smith_types.specs.Syntax.composite_type.SubType.{SubType}
use Rattle.smith_types.specs.Syntax.value_type.AbstractHeapType.{AbstractHeapType}
use Rattle.smith_types.specs.Syntax.value_type.AbstractHeapType.TheVariants as abstract
use Rattle.smith_types.specs.Syntax.value_type.HeapType.{HeapType}
use Rattle.smith_types.specs.Syntax.value_type.HeapType.TheVariants.{Abstract, Concrete, Exact}
use Rattle.smith_types.specs.Syntax.value_type.RefType.{RefType}
use Rattle.smith_types.specs.Syntax.value_type.ValType.{ValType}
use Rattle.smith_instr.specs.Contexts.{BodyContext, nullable_to}
use Rattle.smith_types.specs.Entities.{IsFuncTypeIndex}

-- the top of the hierarchy of an abstract heap type (Validation, Matching, Heap Types)
abbrev pub top_kind : AbstractHeapType → AbstractHeapType
top_kind abstract.Func = abstract.Func
top_kind abstract.NoFunc = abstract.Func
top_kind abstract.Extern = abstract.Extern
top_kind abstract.NoExtern = abstract.Extern
top_kind abstract.Exn = abstract.Exn
top_kind abstract.NoExn = abstract.Exn
top_kind _ = abstract.Any

-- `top` is the top of the hierarchy of a heap type (Validation, Matching, Heap Types)
abbrev pub IsTop : List SubType → HeapType → HeapType → Type 0
IsTop types (Abstract s a) top = top ≡ Abstract s (top_kind a)
IsTop types (Concrete i) top = (t : SubType) × (slice_get types i ≡ Some t) × (top ≡ Abstract (shared t) (top_kind (kind t)))
IsTop types (Exact i) top = (t : SubType) × (slice_get types i ≡ Some t) × (top ≡ Abstract (shared t) (top_kind (kind t)))

-- `widest` is the nullable reference to the top of a reference's hierarchy (Validation, Matching,
-- Heap Types)
abbrev pub IsWidest : List SubType → RefType → ValType → Type 0
IsWidest types reference widest = (top : HeapType) × IsTop types reference.heap_type top × (widest ≡ nullable_to top)

-- a heap type refers to a function type; an exact one requires custom descriptors (own rule)
abbrev pub IsFunctionHeap : BodyContext → HeapType → Type 0
IsFunctionHeap context (Abstract s a) = ⊥
IsFunctionHeap context (Concrete i) = IsFuncTypeIndex context.types i
IsFunctionHeap context (Exact i) = IsTrue context.features.custom_descriptors × IsFuncTypeIndex context.types i
