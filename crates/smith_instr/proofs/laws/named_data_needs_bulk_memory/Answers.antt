use Rattle.smith_instr.proofs.EnabledLemmas.{data_has_bulk_memory}
use Rattle.smith_instr.proofs.laws.named_data_needs_bulk_memory.Goals as goal

pub returns : goal.returns
returns c = λ features kinds instruction names enabled. data_has_bulk_memory features kinds instruction names enabled
