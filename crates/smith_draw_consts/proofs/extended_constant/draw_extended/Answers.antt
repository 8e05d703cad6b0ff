use Rattle.smith_draw_consts.proofs.Common.{arith}
use Rattle.smith_draw_consts.proofs.ExtendedLemmas.{extending_constant, extending_operator, extending_done, extending_adds}
use Rattle.smith_draw_consts.proofs.extended_constant.draw_extended.Goals as goal

pub loop-needed-preserved-in-None : goal.loop-needed-preserved-in-None
loop-needed-preserved-in-None c =
    extending_constant c.loop-needed.invariant (omega arith) (rw (c.len.ensures, c.in-None.is) at c.draw_operator.ensures.draws.exact)
    c.draw_constant-constant.ensures.exact c.in_ok-push-in-None.ensures.ok c.draw_operator.ensures.draws.left
    c.draw_constant-constant.ensures.left

pub loop-needed-preserved : goal.loop-needed-preserved
loop-needed-preserved c =
    extending_operator c.loop-needed.invariant c.loop-needed-test.true
    (rw (c.len.ensures, c.in-Some.is) at c.draw_operator.ensures.draws.exact)
    (rw (c.len.ensures, c.in-Some.is) at c.draw_operator.ensures.few) c.operation.ensures c.in_ok-push-in-Some.ensures.ok
    c.draw_operator.ensures.draws.left

pub returns-clause-exact : goal.returns-clause-exact
returns-clause-exact c = extending_done c.loop-needed.invariant (omega arith)

pub returns-clause-adds : goal.returns-clause-adds
returns-clause-adds c = extending_adds c.loop-needed.invariant (omega arith)
