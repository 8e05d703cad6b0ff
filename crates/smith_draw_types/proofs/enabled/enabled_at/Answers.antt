use Rattle.smith_draw_types.proofs.Common.{◌∙◌}
use Rattle.smith_draw_types.proofs.EnabledLemmas.{enabled_turn}
use Rattle.smith_draw_types.proofs.enabled.enabled_at.Goals as goal

pub loop-row-preserved : goal.loop-row-preserved
loop-row-preserved c = enabled_turn _ _ _ _ _ c.loop-row-test.true c.if-not-row.false c.if-place-eq0.false ∙ c.loop-row.invariant
