use Rattle.smith_instr_examples.proofs.Common.{[], ◌∷◌, refl, itself, I32, exnref}
use Rattle.smith_instr_examples.proofs.ManagedExamples.{takes_there}
use Rattle.smith_instr_examples.proofs.handlers.clauses.Goals as goal

pub returns-clause-one : goal.returns-clause-one
returns-clause-one c = (I32 ∷ [], (7, refl, takes_there), (I32 ∷ [], refl, (tt, tt)))

pub returns-clause-one_to_a_nullable_reference : goal.returns-clause-one_to_a_nullable_reference
returns-clause-one_to_a_nullable_reference c =
    (I32 ∷ [], (7, refl, takes_there), (I32 ∷ exnref ∷ [], refl, (tt, (record { heap = itself; nullable = λ on. refl }, tt))))

pub returns-clause-all_with_a_reference : goal.returns-clause-all_with_a_reference
returns-clause-all_with_a_reference c = (exnref ∷ [], refl, (record { heap = itself; nullable = λ on. refl }, tt))
