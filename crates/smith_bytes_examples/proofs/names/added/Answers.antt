use Rattle.std.proofs.Common.{codes, sym, ◌∙◌}
use Rattle.smith_bytes_examples.proofs.names.added.Goals as goal

pub returns-clause-not_added : goal.returns-clause-not_added
returns-clause-not_added c = λ old new adds. cc (sym (new.has (codes "b")) ∙ adds.has (codes "b"))

pub returns-clause-another_is_lost : goal.returns-clause-another_is_lost
returns-clause-another_is_lost c = λ old new adds. cc (sym (new.has (codes "a")) ∙ (adds.has (codes "a") ∙ old.has (codes "a")))

pub returns-clause-another_beside : goal.returns-clause-another_beside
returns-clause-another_beside c = λ old new adds. cc (sym (new.has (codes "c")) ∙ (adds.has (codes "c") ∙ old.has (codes "c")))
