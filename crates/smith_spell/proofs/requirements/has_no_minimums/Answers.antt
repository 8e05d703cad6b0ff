use Rattle.smith_spell.proofs.AskedLemmas.{zero_each, each_zero}
use Rattle.smith_spell.proofs.requirements.has_no_minimums.Goals as goal

pub returns : goal.returns
returns c = (
  λ yes. zero_each c.args.config.now (rw c.minimums.ensures at (c.are_zero.ensures.0 yes)),
  λ none. c.are_zero.ensures.1 (rw c.minimums.ensures (each_zero c.args.config.now none)),
)
