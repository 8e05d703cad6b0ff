use Rattle.std.proofs.lemmas.Result.{IfOk-weaker}
use Rattle.smith_custom_sections.proofs.ShortLemmas.{drawn_short}
use Rattle.smith_custom_sections.proofs.draws.draw_custom_sections.Goals as goal

pub returns-clause-short : goal.returns-clause-short
returns-clause-short c = IfOk-weaker c.draw_sections.result _ _ (λ _ drawn. drawn_short _ drawn) c.draw_sections.ensures.exact
