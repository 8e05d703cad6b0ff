-- Contexts, instructions and reasons of the examples.
use Rattle.std.specs.Prelude.{◌≡◌, List, [], ◌∷◌}
use Rattle.std.specs.Global.{Vec}
use Rattle.smith_types.specs.Syntax.value_type.ValType.TheVariants.{I32}
use Rattle.smith_instr.specs.Contexts.{BodyContext}
use Rattle.smith_instr.specs.declared.instr.Instr.{Instr}
use Rattle.smith_instr.specs.declared.instr.Instr.TheVariants as instr
use Rattle.smith_instr.specs.declared.numeric.IntBinary.TheVariants as operator
use Rattle.smith_instr.specs.declared.numeric.NumericInstr.TheVariants as numeric
use Rattle.smith_instr.specs.declared.reference.ReferenceInstr.TheVariants as reference
use Rattle.smith_check_rules.specs.ExampleBodies.{plain}
use Rattle.smith_check_rules.specs.declared.slot.Slot.{Slot}
use Rattle.smith_check_body.specs.declared.checker.Checker.{Checker}
use Rattle.smith_explain.specs.Causes.{IsCause}
use Rattle.smith_explain.specs.declared.explanation.Cause.{Cause}
use Rattle.smith_explain.specs.declared.explanation.Cause.TheVariants as cause

-- two locals
abbrev pub two_locals : BodyContext
two_locals = record plain { locals = I32 ∷ I32 ∷ [] }

-- one function, undeclared and declared
abbrev pub one_function : BodyContext
one_function = record plain { funcs = 0 ∷ [] }

abbrev pub declared_function : BodyContext
declared_function = record one_function { references = 0 ∷ [] }

abbrev pub refers : Instr
refers = instr.Reference (reference.Func 0)

abbrev pub adds : Instr
adds = instr.Numeric (numeric.I32Binary operator.Add)

-- the stated reason is right, and the first that applies, wherever the check is
abbrev pub IsAlwaysCause : BodyContext → Instr → Cause → Type 0
IsAlwaysCause context instruction said = (checker : Checker) → IsCause context checker instruction said

abbrev pub IsNeverCause : BodyContext → Instr → Cause → Type 0
IsNeverCause context instruction said = (checker : Checker) → IsCause context checker instruction said → ⊥

-- the same of operands of these types
abbrev pub IsAlwaysWanting : Instr → List Slot → Type 0
IsAlwaysWanting instruction types = (wanted : Vec Slot) → wanted.items ≡ types → IsAlwaysCause plain instruction (cause.Operands wanted)

abbrev pub IsNeverWanting : Instr → List Slot → Type 0
IsNeverWanting instruction types = (wanted : Vec Slot) → wanted.items ≡ types → IsNeverCause plain instruction (cause.Operands wanted)
