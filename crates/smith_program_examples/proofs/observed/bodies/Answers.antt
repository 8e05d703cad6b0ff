use Rattle.smith_program_examples.proofs.ObservedExamples.{local_mixed, local_unmixed}
use Rattle.smith_program_examples.proofs.observed.bodies.Goals as goal

pub returns-clause-of_a_function : goal.returns-clause-of_a_function
returns-clause-of_a_function c = local_mixed

pub returns-clause-without_its_local : goal.returns-clause-without_its_local
returns-clause-without_its_local c = local_unmixed
