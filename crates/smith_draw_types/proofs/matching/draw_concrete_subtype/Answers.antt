use Rattle.smith_draw_types.proofs.Common.{rules}
use Rattle.smith_draw_types.proofs.ChosenLemmas.{placed}
use Rattle.smith_draw_types.proofs.matching.draw_concrete_subtype.Goals as goal

pub returns : goal.returns
returns c = record {
  exact = placed _ _ _ _ _ _ _ c.count_concrete_subtypes-count.ensures
      (rw (c.new.ensures.start, c.new.ensures.end) at c.int_in_range-place.ensures.exact) c.offered_concrete_subtype.ensures;
  left = search rules;
}
