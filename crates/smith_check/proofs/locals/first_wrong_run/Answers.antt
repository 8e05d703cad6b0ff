use Rattle.smith_check.proofs.Common.{features_in, I32, LocalRun, subst}
use Rattle.std.proofs.Common.{take_all}
use Rattle.std.specs.List.{All}
use Rattle.std.proofs.lemmas.List.Elements.{All-more}
use Rattle.smith_check.specs.Locals.{IsRunRight}
use Rattle.smith_check.proofs.locals.first_wrong_run.Goals as goal

pub loop-i-preserved : goal.loop-i-preserved
loop-i-preserved c =
    let d : LocalRun = record { count = 0; ty = I32 } in
    All-more (IsRunRight (features_in c.args.features) c.args.end c.args.indices.now) c.args.runs.now c.loop-i.i d c.loop-i-test.true
    c.loop-i.invariant (c.is_run_right.ensures.0 c.if-not-is_run_right.false)

pub returns : goal.returns
returns c =
    subst (All (IsRunRight (features_in c.args.features) c.args.end c.args.indices.now))
    (take_all c.loop-i.i c.args.runs.now c.loop-i-test.false) c.loop-i.invariant
