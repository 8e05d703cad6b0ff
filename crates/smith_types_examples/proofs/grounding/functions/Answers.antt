use Rattle.smith_types_examples.proofs.Common.{[], ◌∷◌, refl, inr, itself, final_type, plain_func, below_kind}
use Rattle.smith_types_examples.proofs.grounding.functions.Goals as goal

pub returns-clause-its_type : goal.returns-clause-its_type
returns-clause-its_type c = inr (0, 0, refl, record { heap = itself; nullable = λ never. never })

pub returns-clause-its_kind : goal.returns-clause-its_kind
returns-clause-its_kind c =
    inr (0, 0, refl, record { heap = below_kind (final_type plain_func ∷ []) 0 (final_type plain_func) refl; nullable = λ never. never })

pub returns-clause-defined_and_exact : goal.returns-clause-defined_and_exact
returns-clause-defined_and_exact c = inr (0, 0, refl, record { heap = itself; nullable = λ never. never })

pub returns-clause-imported_with_descriptors : goal.returns-clause-imported_with_descriptors
returns-clause-imported_with_descriptors c = inr (0, 0, refl, record { heap = itself; nullable = λ never. never })
