use Rattle.std.proofs.Common.{arith, refl}
use Rattle.smith_syntax.specs.Instructions.{IsNamed}
use Rattle.smith_syntax.specs.declared.instruction_kind.InstructionKind.TheVariants.{
  NumericInt,
  Numeric,
  VectorInt,
  Vector,
  Reference,
  Parametric,
  Variable,
  Table,
  MemoryInt,
  Memory,
  Control,
  Aggregate,
}
use Rattle.smith_syntax.proofs.instruction_kind.InstructionKindFromStr.from_str.Goals as goal

pub returns : goal.returns
returns c =
    let none = c.loop-kind.invariant in (
      λ kind. elim kind as (λ k. ¬ IsNamed c.args.s.now k) [
        | NumericInt ↦ none 0 (omega arith)
        | Numeric ↦ none 1 (omega arith)
        | VectorInt ↦ none 2 (omega arith)
        | Vector ↦ none 3 (omega arith)
        | Reference ↦ none 4 (omega arith)
        | Parametric ↦ none 5 (omega arith)
        | Variable ↦ none 6 (omega arith)
        | Table ↦ none 7 (omega arith)
        | MemoryInt ↦ none 8 (omega arith)
        | Memory ↦ none 9 (omega arith)
        | Control ↦ none 10 (omega arith)
        | Aggregate ↦ none 11 (omega arith)
      ],
      refl,
    )
