use Rattle.smith_check.proofs.Common.{subst, sym, ◌∙◌}
use Rattle.std.proofs.Common.{take_all}
use Rattle.smith_check.specs.Supertypes.{HaveOneSupertype}
use Rattle.smith_check.proofs.SupertypeLemmas.{one_more, several_here}
use Rattle.smith_check.proofs.supertypes.first_several.Goals as goal

pub returns-then-not-is_single : goal.returns-then-not-is_single
returns-then-not-is_single c = record {
  before = c.loop-i.invariant;
  several = several_here c.args.groups.now c.loop-i.i c.index-groups-i.result c.loop-i-test.true c.index-groups-i.is
      (rw c.as_slice.ensures at (sym c.is_single.ensures ∙ c.if-not-is_single.true)) c.loop-i.invariant;
}

pub loop-i-preserved : goal.loop-i-preserved
loop-i-preserved c =
    one_more c.args.groups.now c.loop-i.i c.index-groups-i.result c.loop-i-test.true c.index-groups-i.is
    (rw c.as_slice.ensures at (sym c.is_single.ensures ∙ c.if-not-is_single.false)) c.loop-i.invariant

pub returns : goal.returns
returns c = subst HaveOneSupertype (take_all c.loop-i.i c.args.groups.now c.loop-i-test.false) c.loop-i.invariant
