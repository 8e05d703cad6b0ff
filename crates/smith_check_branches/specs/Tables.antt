-- Tables of functions: the section Validation, Control Instructions, call_indirect, of the
-- WebAssembly Core Specification 3.0.
use Rattle.std.specs.Prelude.{ℕ, Bool, true, List}
use Rattle.smith_types.specs.Subtyping.{IsRefBelow}
use Rattle.smith_types.specs.Syntax.value_type.AbstractHeapType.TheVariants as abstract
use Rattle.smith_types.specs.Syntax.value_type.HeapType.TheVariants.{Abstract}
use Rattle.smith_types.specs.Syntax.value_type.RefType.{RefType}
use Rattle.smith_types.specs.Syntax.composite_type.SubType.{SubType}
use Rattle.smith_instr.specs.Contexts.{BodyContext}
use Rattle.smith_instr.specs.InstrTypes.{IsFunctionTable}

-- the type of nullable references to functions, shared or not (own rule)
abbrev pub functions : Bool → RefType
functions shared = record { nullable = true; heap_type = Abstract shared abstract.Func }

-- an element type is a type of references to functions (Validation, Control Instructions,
-- call_indirect)
abbrev pub AreFunctions : List SubType → RefType → Type 0
AreFunctions types element = (shared : Bool) × IsRefBelow types element (functions shared)

-- there is no table of functions at an index (Validation, Control Instructions, call_indirect)
abbrev pub HasNoFunctionTable : BodyContext → ℕ → Type 0
HasNoFunctionTable context index = (wide : Bool) → IsFunctionTable context index wide → ⊥
