use Rattle.smith_instr.proofs.CompositionLemmas.{typed_append}
use Rattle.smith_instr.proofs.laws.sequences_compose.Goals as goal

pub returns : goal.returns
returns c = λ context first second before between after one other. typed_append one other
