use Rattle.smith_types.specs.Syntax.composite_type.StorageType.TheVariants.{I16}
use Rattle.smith_instr_examples.proofs.Common.{[], ◌∷◌, refl, constant, variable, I32, I64, Val, narrows}
use Rattle.smith_instr_examples.proofs.SharedExamples as example
use Rattle.smith_instr_examples.proofs.sharing.types.Goals as goal

pub returns-clause-struct_new : goal.returns-clause-struct_new
returns-clause-struct_new c = (constant I16 ∷ variable (Val I64) ∷ [], example.struct_there, (refl, refl))

pub returns-clause-struct_get_of_16_bits : goal.returns-clause-struct_get_of_16_bits
returns-clause-struct_get_of_16_bits c = (
  constant I16,
  record { fields = constant I16 ∷ variable (Val I64) ∷ []; structure = example.struct_there; there = refl },
  tt,
  (refl, refl),
)

pub returns-clause-array_set : goal.returns-clause-array_set
returns-clause-array_set c = (variable (Val I32), example.numbers_there, refl, (refl, refl))

pub returns-clause-array_counted : goal.returns-clause-array_counted
returns-clause-array_counted c = example.counted

pub returns-clause-call_ref : goal.returns-clause-call_ref
returns-clause-call_ref c = (narrows, example.narrows_there, (refl, refl))
