use Rattle.smith_instr_examples.proofs.Common.{functions, refl}
use Rattle.smith_instr_examples.proofs.instructions.tables.Goals as goal

pub returns-clause-get : goal.returns-clause-get
returns-clause-get c = (functions, refl, (refl, refl))

pub returns-clause-grown_value_first : goal.returns-clause-grown_value_first
returns-clause-grown_value_first c = (functions, refl, (refl, refl))
