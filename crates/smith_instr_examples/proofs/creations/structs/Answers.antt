use Rattle.smith_instr_examples.proofs.Common.{[], ◌∷◌, refl, All-from_recursion, constant, variable, IsDefaultable, field_values, I8, Val}
use Rattle.smith_instr_examples.proofs.Common.{I64}
use Rattle.smith_instr_examples.proofs.ManagedExamples.{struct_there}
use Rattle.smith_instr_examples.proofs.creations.structs.Goals as goal

pub returns-clause-packed_first : goal.returns-clause-packed_first
returns-clause-packed_first c = (constant I8 ∷ variable (Val I64) ∷ [], struct_there, (refl, refl))

pub returns-clause-by_default : goal.returns-clause-by_default
returns-clause-by_default c = (
  constant I8 ∷ variable (Val I64) ∷ [],
  struct_there,
  All-from_recursion IsDefaultable
      (field_values (constant I8 ∷ variable (Val I64) ∷ [])) (tt, (tt, tt)),
  (refl, refl),
)
