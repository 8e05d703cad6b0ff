-- Programs of examples.
use Rattle.std.specs.Prelude.{ℕ, List, [], ◌∷◌}
use Rattle.smith_types.specs.Syntax.code.Instructions.TheVariants.{Unreachable}
use Rattle.smith_binary_program.specs.Common.{Body, ModuleParts, ValType}
use Rattle.smith_binary_module.specs.ExampleModules.{one_function}
use Rattle.smith_instr.specs.declared.instr.Instr.TheVariants as instr
use Rattle.smith_program.specs.declared.program.Body.TheVariants as body

-- a module with one function, which has these locals
abbrev pub function : List ValType → ModuleParts
function locals = one_function (record { locals = locals; instructions = Unreachable })

-- a body of one instruction
abbrev pub nop : Body
nop = body.Drawn (instr.Nop ∷ [])

-- the magic number and the version
abbrev pub preamble : List ℕ
preamble = 0x00 ∷ 0x61 ∷ 0x73 ∷ 0x6D ∷ 0x01 ∷ 0x00 ∷ 0x00 ∷ 0x00 ∷ []
