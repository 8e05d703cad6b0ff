-- Clauses for exceptions.
use Rattle.std.specs.Prelude.{ℕ, List}
use Rattle.smith_types.specs.Syntax.value_type.ValType.{ValType}
use Rattle.smith_instr.specs.Contexts.{BodyContext, IsTag}

-- there is no tag at an index (Validation, Contexts)
abbrev pub HasNoTag : BodyContext → ℕ → Type 0
HasNoTag context index = (values : List ValType) → IsTag context index values → ⊥
