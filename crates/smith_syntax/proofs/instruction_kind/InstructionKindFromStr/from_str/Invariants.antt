use Rattle.std.proofs.Common.{ℕ, ◌<◌, get_or}
use Rattle.smith_syntax.specs.Instructions.{IsNamed}
use Rattle.smith_syntax.specs.declared.instruction_kind.InstructionKind.TheVariants.{NumericInt}
use Rattle.smith_syntax.proofs.instruction_kind.InstructionKindFromStr.from_str.Given as goal

abbrev pub invariant-loop-kind : goal.invariant-loop-kind
invariant-loop-kind l = (k : ℕ) → k < l.kind-index → ¬ IsNamed l.s (get_or l.kind-items k NumericInt)
