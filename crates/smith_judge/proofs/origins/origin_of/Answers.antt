use Rattle.std.proofs.Common.{arith, refl, take_all}
use Rattle.smith_judge.specs.Places.{imported, defined}
use Rattle.smith_judge.proofs.OriginLemmas.{count_next}
use Rattle.smith_judge.proofs.origins.origin_of.Goals as goal

pub returns-then-left-count-clause-ok : goal.returns-then-left-count-clause-ok
returns-then-left-count-clause-ok c =
    imported c.loop-place.place (omega (arith, c.loop-place.invariant))
    (omega (arith, c.loop-place.invariant, c.in_ok-count.ensures.ok, count_next c.args.kind c.args.groups.now c.loop-place.place)) refl

pub loop-place-preserved : goal.loop-place-preserved
loop-place-preserved c =
    omega (arith, c.loop-place.invariant, c.in_ok-count.ensures.ok, count_next c.args.kind c.args.groups.now c.loop-place.place)

pub returns-clause-ok : goal.returns-clause-ok
returns-clause-ok c =
    defined c.loop-place.left
    (rw (← take_all c.loop-place.place c.args.groups.now (omega (arith, c.loop-place-test.false))) c.loop-place.invariant) refl
