use Rattle.smith_instr_examples.proofs.Common.{true, false, [], refl, narrows}
use Rattle.smith_instr_examples.proofs.ManagedExamples.{narrows_there, narrow_table, wide_table}
use Rattle.smith_instr_examples.proofs.calls.indirect.Goals as goal

pub returns-clause-by_a_table : goal.returns-clause-by_a_table
returns-clause-by_a_table c = (narrows, false, narrow_table [] [], narrows_there, (refl, refl))

pub returns-clause-by_a_wide_table : goal.returns-clause-by_a_wide_table
returns-clause-by_a_wide_table c = (narrows, true, wide_table [] [], narrows_there, (refl, refl))
