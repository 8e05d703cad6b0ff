use Rattle.smith_instr_examples.proofs.Common.{refl, constant, variable, funcref, itself, Val, I32, Ref, some_func}
use Rattle.smith_instr_examples.proofs.ManagedExamples.{numbers_there, references_there, functions_there}
use Rattle.smith_instr_examples.proofs.elements.copied.Goals as goal

pub returns-clause-of_one_type : goal.returns-clause-of_one_type
returns-clause-of_one_type c = (variable (Val I32), variable (Val I32), numbers_there, numbers_there, refl, tt, (refl, refl))

pub returns-clause-of_a_type_below : goal.returns-clause-of_a_type_below
returns-clause-of_a_type_below c = (
  variable (Val (Ref funcref)),
  constant (Val some_func),
  references_there,
  functions_there,
  refl,
  record { heap = itself; nullable = λ on. refl },
  (refl, refl),
)
