-- Instructions that open blocks.
use Rattle.std.specs.Prelude.{List, [], ◌∷◌, ◌++◌}
use Rattle.smith_types.specs.Syntax.value_type.ValType.{ValType}
use Rattle.smith_types.specs.Syntax.value_type.ValType.TheVariants.{I32}
use Rattle.smith_check_operands.specs.declared.frame.Kind.{Kind}
use Rattle.smith_check_operands.specs.declared.frame.Kind.TheVariants as kind
use Rattle.smith_instr.specs.declared.control.BlockType.{BlockType}
use Rattle.smith_instr.specs.declared.instr.Instr.{Instr}
use Rattle.smith_instr.specs.declared.instr.Instr.TheVariants as instr

-- the instruction that opens a block of this kind
abbrev pub opening : Kind → BlockType → Instr
opening kind.Block ty = instr.Block ty
opening kind.Loop ty = instr.Loop ty
opening kind.If ty = instr.If ty

-- the operand types of that instruction
abbrev pub taken_by : Kind → List ValType → List ValType
taken_by kind.If params = params ++ I32 ∷ []
taken_by _ params = params
