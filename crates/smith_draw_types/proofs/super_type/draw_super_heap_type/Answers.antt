use Rattle.smith_draw_types.proofs.Common.{rules}
use Rattle.smith_draw_types.proofs.ChosenLemmas.{super_without_gc, super_with_gc}
use Rattle.smith_draw_types.proofs.super_type.draw_super_heap_type.Goals as goal

pub returns-then-not-config : goal.returns-then-not-config
returns-then-not-config c = record { exact = super_without_gc _ _ _ _ c.if-not-config.true; memory = search rules; left = search rules }

pub returns : goal.returns
returns c = record {
  exact = super_with_gc _ _ _ _ _ _ _ _ c.if-not-config.false c.count_supertypes-count.ensures
      (rw (c.new.ensures.start, c.new.ensures.end) at c.int_in_range-place.ensures.exact) c.offered_supertype.ensures;
  memory = search rules;
  left = search rules;
}
