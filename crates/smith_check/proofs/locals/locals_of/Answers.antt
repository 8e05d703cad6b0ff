use Rattle.smith_check.proofs.Common.{I32, LocalRun, refl}
use Rattle.smith_check.proofs.LocalLemmas.{pushed_run}
use Rattle.smith_check.proofs.locals.locals_of.Goals as goal

pub loop-run-preserved : goal.loop-run-preserved
loop-run-preserved c =
    let d : LocalRun = record { count = 0; ty = I32 } in
    pushed_run c.args.indices.now c.args.params.now c.loop-run.made c.push_run.new.made c.args.runs.now c.loop-run.run-index d _
    c.canonical_val_type.result c.loop-run-test.true refl c.canonical_val_type.ensures c.loop-run.invariant c.in_ok-push_run.ensures.ok
