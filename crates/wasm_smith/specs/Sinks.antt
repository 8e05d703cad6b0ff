-- Three globals that are added to a module, the sinks. Bodies can mix into them the values that they
-- compute. Rules of this project.
use Rattle.std.specs.Prelude.{◌≡◌, ℕ, pos, ◌+◌, true, false, List, [], ◌∷◌, ◌++◌, length, Result, Ok, Err}
use Rattle.wasm_smith.specs.Common.{ConstInstr, Error, GlobalType, I32Const, ModuleParts}
use Rattle.smith_types.specs.Syntax.value_type.ValType.{ValType}
use Rattle.smith_types.specs.Syntax.value_type.ValType.TheVariants.{I32, I64}
use Rattle.smith_types.specs.Syntax.const_instr.ConstInstr.TheVariants.{I64Const}
use Rattle.wasm_smith.specs.Termination.{HasRawBody, MayAddNone}

-- the type of a sink for values of this type
abbrev pub sink : ValType → GlobalType
sink val_type = record { val_type = val_type; mutable = true; shared = false }

-- the types of the sinks
abbrev pub sinks : List GlobalType
sinks = sink I32 ∷ sink I64 ∷ sink I64 ∷ []

-- the definitions of the sinks from this index on, which are 0 at first
abbrev pub sink_definitions : ℕ → List (ℕ × List ConstInstr)
sink_definitions first = (first, I32Const (pos 0) ∷ []) ∷ (first + 1, I64Const (pos 0) ∷ []) ∷ (first + 2, I64Const (pos 0) ∷ []) ∷ []

-- `new` is `old` with the sinks after its globals, and nothing else; the first sink has this index
pub record AddsSinks (first : ℕ) (old new : ModuleParts) : Type 0 where
  pub next : first ≡ length old.globals
  pub added : new ≡ record old { globals = old.globals ++ sinks; defined_globals = old.defined_globals ++ sink_definitions first }

-- the result: the index of the first sink; or the reason why none was added, with the module
-- unchanged
abbrev pub AnswersSinks : ModuleParts → ModuleParts → Result ℕ Error → Type 0
AnswersSinks old new (Ok first) = (HasRawBody old → ⊥) × AddsSinks first old new
AnswersSinks old new (Err error) = MayAddNone old error × (new ≡ old)
