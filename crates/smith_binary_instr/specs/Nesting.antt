-- Flat lists of instructions in which blocks are nested as in the standard: the sections Binary
-- Format, Instructions, Control Instructions and Expressions, of the WebAssembly Core Specification
-- 3.0.
use Rattle.std.specs.Prelude.{◌≡◌, Bool, true, false, Option, Some, None, List, [], ◌∷◌}
use Rattle.smith_binary_instr.specs.Common.{Instr}
use Rattle.smith_instr.specs.declared.instr.Instr.TheVariants as instr

-- The open blocks after an instruction, the innermost first, each with whether it may still have an
-- `else` (Control Instructions). There is no result if an `else` or an `end` belongs to no block.
abbrev pub blocks_after : Instr → List Bool → Option (List Bool)
blocks_after (instr.Block ty) blocks = Some (false ∷ blocks)
blocks_after (instr.Loop ty) blocks = Some (false ∷ blocks)
blocks_after (instr.TryTable ty clauses) blocks = Some (false ∷ blocks)
blocks_after (instr.If ty) blocks = Some (true ∷ blocks)
blocks_after instr.Else (true ∷ blocks) = Some (false ∷ blocks)
blocks_after instr.Else (false ∷ blocks) = None
blocks_after instr.Else [] = None
blocks_after instr.End (block ∷ blocks) = Some blocks
blocks_after instr.End [] = None
blocks_after _ blocks = Some blocks

-- after these instructions, each of the open blocks and each block within the instructions has
-- ended (Control Instructions; Expressions)
abbrev pub AreNested : List Bool → List Instr → Type 0
AreNested blocks [] = blocks ≡ []
AreNested blocks (instruction ∷ more) = (next : List Bool) × (blocks_after instruction blocks ≡ Some next) × AreNested next more
