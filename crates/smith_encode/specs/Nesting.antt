-- Whether blocks are nested: the sections Binary Format, Instructions, Control Instructions and
-- Expressions, of the WebAssembly Core Specification 3.0.
use Rattle.std.specs.Prelude.{Bool, true, false, Option, Some, None, List, [], ◌∷◌, option_and_then}
use Rattle.smith_instr.specs.declared.instr.Instr.{Instr}
use Rattle.smith_binary_instr.specs.Nesting.{blocks_after}

-- the open blocks after these instructions, if each `else` and `end` belongs to a block
abbrev pub blocks_left : List Instr → List Bool → Option (List Bool)
blocks_left [] blocks = Some blocks
blocks_left (instruction ∷ more) blocks = option_and_then (blocks_left more) (blocks_after instruction blocks)

abbrev pub are_closed : Option (List Bool) → Bool
are_closed (Some []) = true
are_closed (Some (block ∷ blocks)) = false
are_closed None = false

-- whether each block of an expression has its `end`
abbrev pub is_nested : List Instr → Bool
is_nested instructions = are_closed (blocks_left instructions [])
