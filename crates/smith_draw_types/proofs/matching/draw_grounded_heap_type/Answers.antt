use Rattle.smith_draw_types.proofs.Common.{arith, drop, filter, refl, rules, slice_get, Some, subst, suc, sym, ℕ, ◌-◌, ◌∷◌, ◌≡◌}
use Rattle.smith_draw_types.specs.Grounding.{is_grounded}
use Rattle.smith_draw_types.specs.Offered.{gc_subtypes}
use Rattle.smith_draw_types.proofs.ChosenLemmas.{grounded_without_gc, grounded_with_gc}
use Rattle.smith_draw_types.proofs.matching.draw_grounded_heap_type.Goals as goal

pub returns-then-not-config : goal.returns-then-not-config
returns-then-not-config c = record { exact = grounded_without_gc _ _ _ _ _ c.if-not-config.true; left = search rules }

pub returns-then-place-eq0 : goal.returns-then-place-eq0
returns-then-place-eq0 c = record {
  exact = grounded_with_gc _ _ _ c.args.ty _ _ _ c.args.ty _ c.if-not-config.false c.count_grounded-count.ensures
      (rw (c.new.ensures.start, c.new.ensures.end) at c.int_in_range-place.ensures.exact) (rw c.if-place-eq0.true refl);
  left = search rules;
}

pub offered_grounded-requires : goal.offered_grounded-requires
offered_grounded-requires c =
    let drawn = c.int_in_range-place.ensures in
    omega (arith, c.count_grounded-count.ensures, c.if-place-eq0.false, drawn.within, c.new.ensures.end)

pub returns : goal.returns
returns c =
    let grounded = filter (is_grounded c.args.standing.now) (drop 1 (gc_subtypes c.args.config.now c.args.standing.now.types c.args.ty)) in
    let next : c.int_in_range-place.result ≡ suc (c.int_in_range-place.result - 1) = omega (arith, c.if-place-eq0.false) in
    let at : slice_get (c.args.ty ∷ grounded) c.int_in_range-place.result ≡ Some c.offered_grounded.result =
    subst (λ (n : ℕ). slice_get (c.args.ty ∷ grounded) n ≡ Some c.offered_grounded.result) (sym next) c.offered_grounded.ensures in
    record {
      exact = grounded_with_gc _ _ _ c.args.ty _ _ _ _ _ c.if-not-config.false c.count_grounded-count.ensures
          (rw (c.new.ensures.start, c.new.ensures.end) at c.int_in_range-place.ensures.exact) at;
      left = search rules;
    }
