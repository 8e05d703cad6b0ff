use Rattle.std.proofs.Common.{arith}
use Rattle.smith_check_renamed.proofs.OwnLemmas.{all_own, one_more_own}
use Rattle.smith_check_renamed.proofs.kept.are_own.Goals as goal

pub loop-i-init : goal.loop-i-init
loop-i-init c = λ i below. absurd (omega (arith, below))

pub loop-i-preserved : goal.loop-i-preserved
loop-i-preserved c = one_more_own c.args.indices.now c.loop-i.i c.loop-i.invariant c.if-first-i.false

pub returns : goal.returns
returns c = λ yes. all_own c.args.indices.now c.loop-i.i (omega arith) c.loop-i.invariant
