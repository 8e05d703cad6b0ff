-- Settling of values, as instructions.
use Rattle.std.specs.Prelude.{ℕ, List}
use Rattle.smith_config.specs.declared.config.Config.{Config}
use Rattle.smith_types.specs.Syntax.value_type.ValType.{ValType}
use Rattle.smith_instr.specs.Contexts.{BodyContext}
use Rattle.smith_instr.specs.declared.instr.Instr.{Instr}
use Rattle.smith_body.specs.Settled.{instructions_of, settling_at}

-- the instructions that settle a value, and the bytes left
abbrev pub settled_by : Config → BodyContext → ValType → List ℕ → List Instr × List ℕ
settled_by config context value bytes =
    let settling = settling_at config context value bytes in
    (instructions_of settling.0, settling.1)
