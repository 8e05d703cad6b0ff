use Rattle.smith_instr_examples.proofs.Common.{functions, refl}
use Rattle.smith_instr_examples.proofs.tables.fills.Goals as goal

pub returns-clause-fill : goal.returns-clause-fill
returns-clause-fill c = (functions, refl, (refl, refl))
