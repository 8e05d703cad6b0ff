-- Expressions whose blocks are nested: the sections Binary Format, Instructions, Control Instructions
-- and Expressions, of the WebAssembly Core Specification 3.0.
use Rattle.std.specs.Prelude.{ℕ, List, []}
use Rattle.smith_binary_read_instr.specs.Common.{Instr}
use Rattle.smith_binary_instr.specs.Instructions.{IsExpr}
use Rattle.smith_binary_instr.specs.Nesting.{AreNested}

-- an expression in which each block has its `end` (Expressions)
abbrev pub IsNestedExpr : List Instr → List ℕ → Type 0
IsNestedExpr instructions piece = AreNested [] instructions × IsExpr instructions piece
