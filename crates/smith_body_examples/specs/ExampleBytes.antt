-- Bytes, configurations and contexts of the examples.
use Rattle.std.specs.Prelude.{ℕ, false, true, List, [], ◌∷◌, pos}
use Rattle.smith_types.specs.ExampleFeatures.{usual_features}
use Rattle.smith_types.specs.ExampleTypes.{final_type}
use Rattle.smith_types.specs.Syntax.value_type.ValType.{ValType}
use Rattle.smith_types.specs.Syntax.value_type.ValType.TheVariants.{I32, I64}
use Rattle.smith_types.specs.Syntax.composite_type.CompositeInnerType.TheVariants.{Func}
use Rattle.smith_types.specs.Syntax.instruction_kind.InstructionKinds.{InstructionKinds}
use Rattle.smith_config.specs.Config.{default_config}
use Rattle.smith_config.specs.declared.config.Config.{Config}
use Rattle.smith_instr.specs.Contexts.{BodyContext}
use Rattle.smith_instr.specs.declared.instr.Instr.{Instr}
use Rattle.smith_instr.specs.declared.instr.Instr.TheVariants as instr
use Rattle.smith_instr_examples.specs.ExampleBodies.{function_of}

-- the default configuration with these kinds of instructions, and without traps
abbrev pub of_kinds : InstructionKinds → Config
of_kinds kinds = record default_config { allowed_instructions = kinds }

abbrev pub trapless : Config
trapless = record default_config { disallow_traps = true }

-- the bytes from which an instruction without operands is an i32 constant
abbrev pub narrow : ℕ → List ℕ
narrow n = 4 ∷ 3 ∷ n ∷ 0 ∷ 0 ∷ 0 ∷ []

-- the bytes from which an instruction without operands is an i64 constant
abbrev pub wide : ℕ → List ℕ
wide n = 4 ∷ 3 ∷ n ∷ 0 ∷ 0 ∷ 0 ∷ 0 ∷ 0 ∷ 0 ∷ 0 ∷ []

abbrev pub wide_number : ℕ → Instr
wide_number n = instr.I64Const (pos n)

-- a body with these results, and types of a function with the result i32, and of one from i64 to
-- i32 and i64
abbrev pub calling : List ValType → BodyContext
calling results = record (function_of [] results) {
  types = final_type (Func (record { params = []; results = I32 ∷ [] })) ∷ final_type
      (Func (record { params = I64 ∷ []; results = I32 ∷ I64 ∷ [] })) ∷ [];
}

-- a body with these results, and the type of a function from i64 to i64
abbrev pub keeping : List ValType → BodyContext
keeping results = record (function_of [] results) { types = final_type (Func (record { params = I64 ∷ []; results = I64 ∷ [] })) ∷ [] }

-- a body with these results, without exceptions
abbrev pub without_exceptions : List ValType → BodyContext
without_exceptions results = record (function_of [] results) { features = record usual_features { exceptions = false } }
