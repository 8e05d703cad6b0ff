-- The features that each construct requires. A module may use a construct only if its features are
-- enabled; this is a rule of this project, because the standard defines one language.
use Rattle.std.specs.Prelude.{◌≡◌, ℕ, ◌<◌, ◌≤◌, true, false, IsTrue, IsSome, length}
use Rattle.smith_types.specs.Common.{Abstract, AbstractHeapType, Array, Compact1, Compact2, CompositeInnerType, Concrete, ConstInstr, Exact}
use Rattle.smith_types.specs.Common.{Features, Func, HeapType, Imports, RefType, Single, Struct, SubType}
use Rattle.smith_syntax.specs.declared.value_type.AbstractHeapType.TheVariants as abstract
use Rattle.smith_syntax.specs.declared.const_instr.ConstInstr.TheVariants as instr

-- an abstract heap type is enabled (own rule)
abbrev pub IsAbstractEnabled : Features → AbstractHeapType → Type 0
IsAbstractEnabled features abstract.Func = Unit {0}
IsAbstractEnabled features abstract.Extern = Unit {0}
IsAbstractEnabled features abstract.Exn = IsTrue features.exceptions
IsAbstractEnabled features abstract.NoExn = IsTrue features.exceptions × IsTrue features.gc
IsAbstractEnabled features _ = IsTrue features.gc

-- a heap type is enabled: shared, concrete and exact types each require a feature (own rule)
abbrev pub IsHeapTypeEnabled : Features → HeapType → Type 0
IsHeapTypeEnabled features (Abstract shared ty) = IsAbstractEnabled features ty
    × (IsTrue shared → IsTrue features.shared_everything_threads)
IsHeapTypeEnabled features (Concrete index) = IsTrue features.gc
IsHeapTypeEnabled features (Exact index) = IsTrue features.custom_descriptors

-- a composite type is enabled: arrays and structs require a feature, and so do functions with
-- several results (own rule)
abbrev pub IsInnerEnabled : Features → CompositeInnerType → Type 0
IsInnerEnabled features (Array array) = IsTrue features.gc
IsInnerEnabled features (Func function) = 1 < length function.results → IsTrue features.multi_value
IsInnerEnabled features (Struct structure) = IsTrue features.gc

-- a subtype is enabled: a type that is not final, has a supertype or is shared requires a feature
-- (own rule)
pub record IsSubTypeEnabled (features : Features) (t : SubType) : Type 0 where
  pub inner : IsInnerEnabled features t.composite_type.inner
  pub not_final : t.is_final ≡ false → IsTrue features.gc
  pub supertype : IsSome t.supertype → IsTrue features.gc
  pub shared : IsTrue t.composite_type.shared → IsTrue features.shared_everything_threads

-- nullable references to unshared functions: without reference types, the only element type of
-- tables (own rule)
abbrev pub funcref : RefType
funcref = record { nullable = true; heap_type = Abstract false abstract.Func }

-- the element type of a table or a segment is enabled: all but funcref require reference types (own
-- rule)
abbrev pub IsElementTypeEnabled : Features → RefType → Type 0
IsElementTypeEnabled features element_type = (element_type ≡ funcref → ⊥) → IsTrue features.reference_types

-- a group of imports is enabled: a compact group requires its feature (own rule)
abbrev pub IsImportsEnabled : Features → Imports → Type 0
IsImportsEnabled features (Single imported) = Unit {0}
IsImportsEnabled features (Compact1 imported_module items) = IsTrue features.compact_imports
IsImportsEnabled features (Compact2 imported_module entity_type names) = IsTrue features.compact_imports

-- an instruction of a constant expression is enabled, in a module with `imported` imported globals
-- (own rule)
abbrev pub IsInstrEnabled : Features → ℕ → ConstInstr → Type 0
IsInstrEnabled features imported (instr.I32Const value) = Unit {0}
IsInstrEnabled features imported (instr.I64Const value) = Unit {0}
IsInstrEnabled features imported (instr.F32Const bits) = Unit {0}
IsInstrEnabled features imported (instr.F64Const bits) = Unit {0}
IsInstrEnabled features imported (instr.V128Const bits) = IsTrue features.simd
IsInstrEnabled features imported (instr.GlobalGet global) = imported ≤ global → IsTrue features.gc
IsInstrEnabled features imported (instr.RefNull heap_type) = IsTrue features.reference_types
IsInstrEnabled features imported (instr.RefFunc function) = IsTrue features.reference_types
IsInstrEnabled features imported instr.I32Add = IsTrue features.extended_const
IsInstrEnabled features imported instr.I32Sub = IsTrue features.extended_const
IsInstrEnabled features imported instr.I32Mul = IsTrue features.extended_const
IsInstrEnabled features imported instr.I64Add = IsTrue features.extended_const
IsInstrEnabled features imported instr.I64Sub = IsTrue features.extended_const
IsInstrEnabled features imported instr.I64Mul = IsTrue features.extended_const
IsInstrEnabled features imported instr.RefI31Shared = IsTrue features.gc × IsTrue features.shared_everything_threads
IsInstrEnabled features imported _ = IsTrue features.gc
