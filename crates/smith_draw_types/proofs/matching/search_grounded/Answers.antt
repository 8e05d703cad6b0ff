use Rattle.smith_draw_types.proofs.Common.{arith, drop, filter, sym, ◌∙◌}
use Rattle.smith_draw_types.specs.Grounding.{is_grounded}
use Rattle.smith_draw_types.specs.Offered.{gc_subtypes}
use Rattle.smith_draw_types.proofs.GroundedLoop.{found_here, found_later, found_further, never_missed}
use Rattle.smith_draw_types.proofs.matching.search_grounded.Goals.{then-found+else-left-eq0, else-found}
use Rattle.smith_draw_types.proofs.matching.search_grounded.Goals as goal

pub returns-then-left-eq0 : goal.returns-then-left-eq0
returns-then-left-eq0 c =
    let context = c.args.standing.now in
    let offered = gc_subtypes c.args.config.now context.types c.args.ty in
    let at = rw c.types-space.ensures at c.offered_subtype-other.ensures in
    sym c.loop-at.invariant ∙ found_here (is_grounded context) offered c.loop-at.at c.offered_subtype-other.result at c.loop-at.left
    (sym c.is_grounded-found.ensures ∙ c.if-found.true) c.if-left-eq0.true

pub loop-at-preserved : goal.loop-at-preserved
loop-at-preserved c =
    let context = c.args.standing.now in
    let offered = gc_subtypes c.args.config.now context.types c.args.ty in
    let at = rw c.types-space.ensures at c.offered_subtype-other.ensures in
    elim c.if-found.branch [
      | then-found+else-left-eq0 w ↦ rw w.left-is (found_later (is_grounded context) offered c.loop-at.at c.offered_subtype-other.result at
          c.loop-at.left _ (sym c.is_grounded-found.ensures ∙ w.if-found.true) (omega (arith, w.if-left-eq0.false)) c.loop-at.invariant)
      | else-found w ↦ rw w.left-is (found_further (is_grounded context) offered c.loop-at.at c.offered_subtype-other.result at
          c.loop-at.left _ (sym c.is_grounded-found.ensures ∙ w.if-found.false) c.loop-at.invariant)
    ]

pub returns : goal.returns
returns c =
    let context = c.args.standing.now in
    let offered = gc_subtypes c.args.config.now context.types c.args.ty in
    let count = rw c.types-space.ensures at c.count_subtypes-at-end.ensures in
    absurd (never_missed (is_grounded context) offered (filter (is_grounded context) (drop 1 offered)) c.loop-at.at c.loop-at.left
    c.args.place c.args.ty (omega (arith, count, c.loop-at-test.false)) c.requires c.loop-at.invariant)
