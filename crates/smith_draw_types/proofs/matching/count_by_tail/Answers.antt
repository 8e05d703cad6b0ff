use Rattle.smith_draw_types.proofs.Common.{arith, refl}
use Rattle.smith_draw_types.specs.Grounding.{is_grounded}
use Rattle.smith_draw_types.specs.GroundedTails.{IsGroundedTail}
use Rattle.smith_draw_types.specs.Offered.{gc_subtypes}
use Rattle.smith_draw_types.proofs.ChosenLemmas.{gc_subtypes_some}
use Rattle.smith_draw_types.proofs.GroundedTailLemmas.{all_grounded, none_further}
use Rattle.smith_draw_types.proofs.matching.count_by_tail.Goals as goal

pub count_grounded_before-requires : goal.count_grounded_before-requires
count_grounded_before-requires c =
    let tail = rw c.in-Some.is at (c.grounded_tail.ensures c.args.config.now) in
    record { some = tail.some; within = tail.within }

pub returns-in-Some : goal.returns-in-Some
returns-in-Some c =
    let tail = rw c.in-Some.is at (c.grounded_tail.ensures c.args.config.now) in
    let offered = gc_subtypes c.args.config.now c.args.standing.now.types c.args.ty in
    all_grounded (is_grounded c.args.standing.now) offered c.in-Some.tail.start c.count_grounded_before.result c.in-Some.tail.indices.now
    tail.some tail.rest c.count_grounded_before.ensures.counted _ refl

pub count_grounded_before-requires-in-None : goal.count_grounded_before-requires-in-None
count_grounded_before-requires-in-None c =
    let some = gc_subtypes_some c.args.config.now c.args.standing.now.types c.args.ty in
    let count = rw c.types.ensures at c.count_subtypes-end.ensures in
    record { some = omega (arith, count, some); within = omega (arith, count) }

pub returns-in-None : goal.returns-in-None
returns-in-None c =
    let offered = gc_subtypes c.args.config.now c.args.standing.now.types c.args.ty in
    let count = rw c.types.ensures at c.count_subtypes-end.ensures in
    none_further (is_grounded c.args.standing.now) offered _ _ count c.count_grounded_before-in-None.ensures.counted
