use Rattle.smith_draw_types.proofs.Common.{rules, ◌∙◌}
use Rattle.smith_draw_types.proofs.ChosenLemmas.{matching_without_gc, matching_with_gc}
use Rattle.smith_draw_types.proofs.matching.draw_matching_heap_type.Goals as goal

pub returns-then-not-config : goal.returns-then-not-config
returns-then-not-config c = record { exact = matching_without_gc _ _ _ _ c.if-not-config.true; memory = search rules; left = search rules }

pub returns : goal.returns
returns c = record {
  exact = matching_with_gc _ _ _ _ c.if-not-config.false ∙ c.draw_subtype.ensures.exact;
  memory = search rules;
  left = c.draw_subtype.ensures.left;
}
