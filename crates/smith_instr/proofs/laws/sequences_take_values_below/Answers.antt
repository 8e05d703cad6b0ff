use Rattle.smith_instr.proofs.CompositionLemmas.{from_below}
use Rattle.smith_instr.proofs.laws.sequences_take_values_below.Goals as goal

pub returns : goal.returns
returns c = λ context sequence before after values counts typed. from_below values counts typed
