-- Kinds and sharedness of types. Sections are those of the WebAssembly Core Specification 3.0.
use Rattle.std.specs.Prelude.{Bool}
use Rattle.smith_syntax.specs.declared.value_type.AbstractHeapType.{AbstractHeapType}
use Rattle.smith_syntax.specs.declared.value_type.AbstractHeapType.TheVariants as heap
use Rattle.smith_syntax.specs.declared.composite_type.CompositeInnerType.{CompositeInnerType}
use Rattle.smith_syntax.specs.declared.composite_type.CompositeInnerType.TheVariants.{Array, Func, Struct}
use Rattle.smith_syntax.specs.declared.composite_type.SubType.{SubType}

-- the abstract heap type of a composite type: array, func or struct (Validation, Matching, Heap
-- Types)
abbrev pub kind_of : CompositeInnerType → AbstractHeapType
kind_of (Array a) = heap.Array
kind_of (Func f) = heap.Func
kind_of (Struct s) = heap.Struct

-- the bottom type of a composite type's hierarchy: none, or nofunc for a function type (Validation,
-- Matching, Heap Types)
abbrev pub bottom_of : CompositeInnerType → AbstractHeapType
bottom_of (Array a) = heap.None
bottom_of (Func f) = heap.NoFunc
bottom_of (Struct s) = heap.None

-- the abstract heap type of a subtype's composite type (Validation, Matching, Heap Types)
abbrev pub kind : SubType → AbstractHeapType
kind t = kind_of t.composite_type.inner

-- the bottom type of a subtype's hierarchy (Validation, Matching, Heap Types)
abbrev pub bottom : SubType → AbstractHeapType
bottom t = bottom_of t.composite_type.inner

-- whether a subtype's composite type is shared (own rule)
abbrev pub shared : SubType → Bool
shared t = t.composite_type.shared
