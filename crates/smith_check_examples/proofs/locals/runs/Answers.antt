use Rattle.std.proofs.Common.{[], arith, refl}
use Rattle.smith_check_examples.proofs.LocalLemmas.{past_types}
use Rattle.smith_check_examples.proofs.locals.runs.Goals as goal

pub returns-clause-of_a_missing_type : goal.returns-clause-of_a_missing_type
returns-clause-of_a_missing_type c = past_types 0 [] (omega arith)

pub returns-clause-of_the_last_type : goal.returns-clause-of_the_last_type
returns-clause-of_the_last_type c = λ some. (refl, record { heap_type = (refl, omega arith); nullable = λ never. refl })

pub returns-clause-of_an_equal_type : goal.returns-clause-of_an_equal_type
returns-clause-of_an_equal_type c = λ some. (refl, record { heap_type = (refl, omega arith); nullable = λ never. refl })

pub returns-clause-of_nothing : goal.returns-clause-of_nothing
returns-clause-of_nothing c = λ some. absurd (omega (arith, some))
