use Rattle.smith_draw_types.proofs.Common.{ap, arith, length, slice_get-get_or, sym, ◌-◌, ◌∙◌}
use Rattle.std.specs.Prelude.{Some}
use Rattle.smith_draw_types.specs.Grounding.{is_grounded}
use Rattle.smith_draw_types.specs.Offered.{gc_subtypes}
use Rattle.smith_draw_types.proofs.GroundedTailLemmas.{recorded_inside, recorded_found}
use Rattle.smith_draw_types.proofs.matching.offered_by_tail.Goals as goal

pub count_grounded_before-before-requires : goal.count_grounded_before-before-requires
count_grounded_before-before-requires c =
    let tail = rw c.in-Some.is at (c.grounded_tail.ensures c.args.config.now) in
    record { some = tail.some; within = tail.within }

pub returns : goal.returns
returns c =
    let tail = rw c.in-Some.is at (c.grounded_tail.ensures c.args.config.now) in
    let offered = gc_subtypes c.args.config.now c.args.standing.now.types c.args.ty in
    let least = c.if-place-before.false in
    let inside = recorded_inside (is_grounded c.args.standing.now) offered c.in-Some.tail.start c.count_grounded_before-before.result
    c.in-Some.tail.indices.now tail.some tail.rest c.count_grounded_before-before.ensures.counted c.args.place (omega (arith, least))
    c.requires in
    recorded_found (is_grounded c.args.standing.now) offered c.in-Some.tail.start c.count_grounded_before-before.result
    c.in-Some.tail.indices.now tail.some tail.rest c.count_grounded_before-before.ensures.counted c.args.place _ (omega (arith, least))
    (slice_get-get_or c.in-Some.tail.indices.now (c.args.place - c.count_grounded_before-before.result) 0 inside)
