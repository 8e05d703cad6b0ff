use Rattle.smith_draw_contents.proofs.Common.{drop, places_from, ◌++◌, ◌≡◌}
use Rattle.smith_draw_contents.specs.ElementSegments.{is_unshared_type, unshared_funcs}
use Rattle.smith_draw_contents.proofs.element_items.offer_unshared.Given as goal

abbrev pub invariant-loop-ty : goal.invariant-loop-ty
invariant-loop-ty l = record {
  end : l.unshared.end ≡ l.ty-index;
  so_far : l.unshared.offered ++ places_from (is_unshared_type l.types) l.ty-index (drop l.ty-index l.funcs) ≡ unshared_funcs l.types
      l.funcs;
}
