-- Instructions that have a type in the managed context, or none; instructions that are enabled, or
-- not.
use Rattle.std.specs.Prelude.{◌≡◌, ◌-◌, ◌^◌, Bool, List, []}
use Rattle.smith_types.specs.Syntax.Features.{Features}
use Rattle.smith_types.specs.Syntax.Instructions.{float_bits, kind_bits}
use Rattle.smith_types.specs.Syntax.instruction_kind.InstructionKind.{InstructionKind}
use Rattle.smith_types.specs.Syntax.instruction_kind.InstructionKinds.{InstructionKinds}
use Rattle.smith_types.specs.Syntax.value_type.ValType.{ValType}
use Rattle.smith_instr.specs.Enabled.{has_features, is_allowed, is_kind_enabled}
use Rattle.smith_instr.specs.InstrTypes.{HasInstrType}
use Rattle.smith_instr.specs.declared.instr.Instr.{Instr}
use Rattle.smith_instr_examples.specs.ExampleManaged.{managed}

-- the instruction has this type
abbrev pub HasType : Instr → List ValType → List ValType → Type 0
HasType instruction operands results = HasInstrType (managed [] []) [] instruction operands results

-- the instruction has these operands and results, and no others
pub record HasOnlyType (instruction : Instr) (operands results : List ValType) : Type 0 where
  pub has : HasType instruction operands results
  pub only : (takes gives : List ValType) → HasType instruction takes gives → (takes ≡ operands) × (gives ≡ results)

-- the instruction does not have these operands, whatever its results
abbrev pub TakesNot : Instr → List ValType → Type 0
TakesNot instruction operands = (results : List ValType) → ¬ HasInstrType (managed [] []) [] instruction operands results

-- the instruction does not have these results, whatever its operands
abbrev pub LeavesNot : Instr → List ValType → Type 0
LeavesNot instruction results = (operands : List ValType) → ¬ HasInstrType (managed [] []) [] instruction operands results

-- the instruction has no type
abbrev pub HasNoType : Instr → Type 0
HasNoType instruction = (operands results : List ValType) → ¬ HasInstrType (managed [] []) [] instruction operands results

-- the instruction needs these features, whatever the others are
abbrev pub IsOnWith : (Features → Bool) → Instr → Type 0
IsOnWith are_on instruction = (features : Features) → has_features features instruction ≡ are_on features

-- the instruction is allowed if this kind is, whatever the others are
abbrev pub IsOfKind : InstructionKind → Instr → Type 0
IsOfKind kind instruction = (kinds : InstructionKinds) → is_kind_enabled kinds instruction ≡ is_allowed kinds kind

-- all kinds but one, and all kinds without floats
abbrev pub all_but : InstructionKind → InstructionKinds
all_but kind = record { 0 = 2 ^ 12 - 1 - kind_bits kind }

abbrev pub without_floats : InstructionKinds
without_floats = record { 0 = 2 ^ 12 - 1 - float_bits }
