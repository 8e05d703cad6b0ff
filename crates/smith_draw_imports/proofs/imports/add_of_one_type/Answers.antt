use Rattle.smith_draw_imports.proofs.ImportsGrownLemmas.{ends_counted}
use Rattle.smith_draw_imports.proofs.imports.add_of_one_type.Goals as goal

pub returns-in_default-clause-ended : goal.returns-in_default-clause-ended
returns-in_default-clause-ended c = λ off. ends_counted c.requires.so_far.counts c.requires.so_far.fit
    (c.in_ok-entity_type.ensures.ended c.in_default.is)
