use Rattle.smith_spell.proofs.AskedLemmas.{asked_once_sanitised, asked_at_first}
use Rattle.smith_spell.proofs.requirements.requires_nothing.Goals as goal

pub returns : goal.returns
returns c = (
  λ yes. asked_once_sanitised c.args.config.now (c.is_nothing_required.ensures.0 yes),
  λ asked. c.is_nothing_required.ensures.1 (asked_at_first c.args.config.now asked),
)
