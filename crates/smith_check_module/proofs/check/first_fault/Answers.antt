use Rattle.smith_check_module.proofs.Common.{All-more, get_or, refl, subst, take_all}
use Rattle.std.specs.List.{All}
use Rattle.smith_check_module.specs.Judges.{AreRight}
use Rattle.smith_check_module.specs.SectionFaults.{parts}
use Rattle.smith_check_module.specs.declared.faults.Part.TheVariants as part
use Rattle.smith_check_module.proofs.CheckLemmas.{first_by}
use Rattle.smith_check_module.proofs.JudgeLemmas.{entities_first}
use Rattle.smith_check_module.proofs.check.first_fault.Goals as goal

pub first_wrong-requires-clause-valid : goal.first_wrong-requires-clause-valid
first_wrong-requires-clause-valid c =
    entities_first c.args.judge.now c.loop-part.part-index part.Tags c.loop-part-test.true c.loop-part.invariant

pub loop-part-preserved : goal.loop-part-preserved
loop-part-preserved c =
    All-more (AreRight c.args.judge.now) parts c.loop-part.part-index part.Tags c.loop-part-test.true c.loop-part.invariant
    (rw c.in-None.is at c.in_ok-found.ensures.ok)

pub returns-in-Some-clause-ok : goal.returns-in-Some-clause-ok
returns-in-Some-clause-ok c =
    first_by c.args.judge.now c.loop-part.part-index (get_or parts c.loop-part.part-index part.Tags) c.in-Some.index part.Tags
    c.loop-part-test.true refl c.loop-part.invariant
    (rw c.in-Some.is at c.in_ok-found.ensures.ok)

pub returns-clause-ok : goal.returns-clause-ok
returns-clause-ok c =
    subst (All (AreRight c.args.judge.now)) (take_all _ parts c.loop-part-test.false) c.loop-part.invariant
