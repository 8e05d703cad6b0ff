-- Indices without an item.
use Rattle.std.specs.Prelude.{ℕ, ◌≤◌, Bool, List}
use Rattle.smith_types.specs.Syntax.composite_type.FuncType.{FuncType}
use Rattle.smith_types.specs.Syntax.composite_type.SubType.{SubType}
use Rattle.smith_types.specs.Syntax.entity_type.MemoryType.{MemoryType}
use Rattle.smith_instr.specs.MemoryTypes.{IsAccess}
use Rattle.smith_instr.specs.declared.memory.MemArg.{MemArg}
use Rattle.smith_types.specs.Entities.{IsFuncAt}

-- there is no access to 2^`log2_bytes` bytes with this memory argument (Validation, Memory
-- Instructions, memarg)
abbrev pub HasNoAccess : List MemoryType → MemArg → ℕ → Type 0
HasNoAccess memories at log2_bytes = (wide : Bool) → IsAccess memories at wide → at.align ≤ log2_bytes → ⊥

-- there is no function type at this index (Validation, Contexts)
abbrev pub HasNoFunc : List SubType → ℕ → Type 0
HasNoFunc types index = (function : FuncType) → IsFuncAt types index function → ⊥
