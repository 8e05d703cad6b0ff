use Rattle.std.proofs.Common.{[], arith, refl}
use Rattle.smith_check_examples.proofs.LocalLemmas.{numbers_right, second_wrong, third_not_first}
use Rattle.smith_check_examples.proofs.locals.first_wrong_runs.Goals as goal

pub returns-clause-second : goal.returns-clause-second
returns-clause-second c = second_wrong 0 [] (omega arith)

pub returns-clause-not_the_first : goal.returns-clause-not_the_first
returns-clause-not_the_first c = numbers_right _ refl

pub returns-clause-not_the_last : goal.returns-clause-not_the_last
returns-clause-not_the_last c = third_not_first 0 [] (omega arith)

pub returns-clause-none : goal.returns-clause-none
returns-clause-none c = numbers_right _ refl
