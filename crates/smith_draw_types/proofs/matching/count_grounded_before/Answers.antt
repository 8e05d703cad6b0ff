use Rattle.smith_draw_types.proofs.Common.{arith, drop, filter, length, subst, sym, ℕ, ◌+◌, ◌∙◌, ◌≡◌}
use Rattle.smith_draw_types.specs.Grounding.{is_grounded}
use Rattle.smith_draw_types.specs.Offered.{gc_subtypes}
use Rattle.smith_draw_types.proofs.GroundedLoop.{counts_one, counts_none}
use Rattle.smith_draw_types.proofs.matching.count_grounded_before.Goals.{then-found, else-found}
use Rattle.smith_draw_types.proofs.matching.count_grounded_before.Goals as goal

pub loop-place-preserved : goal.loop-place-preserved
loop-place-preserved c =
    let context = c.args.standing.now in
    let offered = gc_subtypes c.args.config.now context.types c.args.ty in
    let at = rw c.types-space.ensures at c.offered_subtype-other.ensures in
    let so_far = c.loop-place.invariant in
    elim c.if-found.branch [
      | then-found w ↦ rw w.grounded-is (record {
        counted = counts_one (is_grounded context) offered c.loop-place.place c.offered_subtype-other.result at _ _
            (sym c.is_grounded-found.ensures ∙ w.if-found.true) so_far.counted;
        within = omega (arith, so_far.within);
        before = omega (arith, c.loop-place-test.true);
      })
      | else-found w ↦ rw w.grounded-is (record {
        counted = counts_none (is_grounded context) offered c.loop-place.place c.offered_subtype-other.result at _ _
            (sym c.is_grounded-found.ensures ∙ w.if-found.false) so_far.counted;
        within = omega (arith, so_far.within);
        before = omega (arith, c.loop-place-test.true);
      })
    ]

pub loop-place-init : goal.loop-place-init
loop-place-init c = record { counted = omega arith; within = omega arith; before = omega (arith, c.requires.some) }

pub returns-clause-few : goal.returns-clause-few
returns-clause-few c = omega (arith, c.loop-place-test.false, c.loop-place.invariant.before, c.loop-place.invariant.within)

pub returns-clause-counted : goal.returns-clause-counted
returns-clause-counted c =
    let context = c.args.standing.now in
    let offered = gc_subtypes c.args.config.now context.types c.args.ty in
    let last : c.loop-place.place ≡ c.args.end = omega (arith, c.loop-place-test.false, c.loop-place.invariant.before) in
    subst (λ (n : ℕ). c.loop-place.grounded + length (filter (is_grounded context) (drop n offered))
    ≡ length (filter (is_grounded context) (drop 1 offered))) last c.loop-place.invariant.counted
