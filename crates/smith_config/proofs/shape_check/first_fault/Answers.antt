use Rattle.smith_config.proofs.FirstFaultLemmas.{passed, failed, first_too_long, follows_not}
use Rattle.smith_config.proofs.shape_check.first_fault.Goals as goal

pub returns-then-not-is_short-clause-found : goal.returns-then-not-is_short-clause-found
returns-then-not-is_short-clause-found c = first_too_long c.args.which c.args.config.now c.args.shape.now
    (failed _ c.is_short.ensures c.if-not-is_short.true)

pub returns-in-None-clause-found : goal.returns-in-None-clause-found
returns-in-None-clause-found c =
    follows_not c.args.which c.args.config.now c.args.shape.now (passed _ c.is_short.ensures c.if-not-is_short.false)
    (rw (c.in-None.is, c.as_slice.ensures) at c.in_ok-made.ensures.found)
