use Rattle.smith_instr_examples.proofs.Common.{[], ◌∷◌, refl, constant, variable, I8, Val, I64}
use Rattle.smith_instr_examples.proofs.ManagedExamples.{struct_there}
use Rattle.smith_instr_examples.proofs.basics.fields.Goals as goal

pub returns-clause-get : goal.returns-clause-get
returns-clause-get c = (
  variable (Val I64),
  record { fields = constant I8 ∷ variable (Val I64) ∷ []; structure = struct_there; there = refl },
  tt,
  (refl, refl),
)

pub returns-clause-get_unsigned : goal.returns-clause-get_unsigned
returns-clause-get_unsigned c =
    (constant I8, record { fields = constant I8 ∷ variable (Val I64) ∷ []; structure = struct_there; there = refl }, tt, (refl, refl))
