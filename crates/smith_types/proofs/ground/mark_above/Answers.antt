use Rattle.smith_types.proofs.Common.{arith, refl, slice_get-get_or, subst, sym, true, ◌∙◌}
use Rattle.smith_types.specs.declared.ground.Ground.{Ground}
use Rattle.smith_types.specs.Grounds.{IsMarking}
use Rattle.smith_types.proofs.MarkLemmas.{said_is, steps_less, marking_begins, marking_goes_on, marking_stops, marking_ends}
use Rattle.smith_types.proofs.ground.mark_above.Goals as goal

pub loop-above-init : goal.loop-above-init
loop-above-init c = record {
  marking = marking_begins c.args.types.now c.requires.orderly c.args.from c.args.grounds.now.items
      (λ s is. let (inside, entry) = c.requires.stands s is in (inside, omega (arith, entry, c.args.grounds.now.ok.0)));
  capacity = refl;
}

pub index-ground-requires : goal.index-ground-requires
index-ground-requires c =
    let (inside, entry, first) = c.loop-above.invariant.marking.next c.in-Some.index c.in-Some.is in
    omega (arith, entry, c.loop-above.invariant.marking.long, c.loop-above.grounds.ok.0)

pub index_mut-requires : goal.index_mut-requires
index_mut-requires c =
    let (inside, entry, first) = c.loop-above.invariant.marking.next c.in-Some.index c.in-Some.is in
    omega (arith, entry, c.loop-above.invariant.marking.long, c.loop-above.grounds.ok.0)

pub bounds-types-index : goal.bounds-types-index
bounds-types-index c = (c.loop-above.invariant.marking.next c.in-Some.index c.in-Some.is).0

pub bounds-types-index-else-ground : goal.bounds-types-index-else-ground
bounds-types-index-else-ground c = (c.loop-above.invariant.marking.next c.in-Some.index c.in-Some.is).0

pub returns-then-ground-clause-marked : goal.returns-then-ground-clause-marked
returns-then-ground-clause-marked c = λ closed.
    let marking = c.loop-above.invariant.marking in
    let (inside, entry, first) = marking.next c.in-Some.index c.in-Some.is in
    let said = said_is (λ (ground : Ground). ground.below) c.loop-above.grounds.items c.in-Some.index c.index-ground.result.now _
    (omega (arith, entry, marking.long)) c.index-ground.ensures in
    marking_stops c.args.types.now c.requires.orderly c.args.from c.args.grounds.now.items c.loop-above.grounds.items c.in-Some.index
    (said ∙ c.if-ground.true)
    (subst (λ above. IsMarking c.args.types.now c.args.from above c.args.grounds.now.items c.loop-above.grounds.items) c.in-Some.is marking)
    closed

pub returns-then-ground-clause-len : goal.returns-then-ground-clause-len
returns-then-ground-clause-len c = omega (arith, c.loop-above.invariant.marking.long, c.loop-above.grounds.ok.0, c.args.grounds.now.ok.0)

pub loop-above-smaller : goal.loop-above-smaller
loop-above-smaller c =
    let (inside, entry, first) = c.loop-above.invariant.marking.next c.in-Some.index c.in-Some.is in
    steps_less c.args.types.now c.in-Some.index _ c.loop-above.above c.requires.orderly
    (slice_get-get_or c.args.types.now c.in-Some.index c.index-types-index.result inside) c.in-Some.is

pub loop-above-preserved : goal.loop-above-preserved
loop-above-preserved c =
    let marking = c.loop-above.invariant.marking in
    let (inside, entry, first) = marking.next c.in-Some.index c.in-Some.is in
    let said = said_is (λ (ground : Ground). ground.own) c.loop-above.grounds.items c.in-Some.index c.index-ground.result.now _
    (omega (arith, entry, marking.long)) c.index-ground.ensures in
    record {
      marking = marking_goes_on c.args.types.now c.requires.orderly c.args.from c.args.grounds.now.items c.loop-above.grounds.items
          c.in-Some.index _ (record { own = c.index-ground.result.now.own; below = true }) (sym said) refl
          (slice_get-get_or c.args.types.now c.in-Some.index c.index-types-index.result inside)
          (subst (λ above. IsMarking c.args.types.now c.args.from above c.args.grounds.now.items c.loop-above.grounds.items) c.in-Some.is
          marking);
      capacity = c.loop-above.invariant.capacity;
    }

pub returns-clause-marked : goal.returns-clause-marked
returns-clause-marked c = λ closed. marking_ends c.args.types.now c.requires.orderly c.args.from c.args.grounds.now.items
    c.loop-above.grounds.items c.loop-above.above c.in_default.is c.loop-above.invariant.marking

pub returns-clause-len : goal.returns-clause-len
returns-clause-len c = omega (arith, c.loop-above.invariant.marking.long, c.loop-above.grounds.ok.0, c.args.grounds.now.ok.0)
