use Rattle.smith_check.proofs.Common.{arith}
use Rattle.smith_check.proofs.JudgeLemmas.{whole_valid}
use Rattle.smith_check.proofs.functions.FunctionJudge.whole.Goals as goal

pub returns : goal.returns
returns c =
    whole_valid c.args.self.now c.requires.judge c.requires.before (λ more.
    let functions = c.len.ensures in let bodies = c.len-bodies.ensures in let past = c.if-bodies-len.false in
    omega (arith, more, functions, bodies, past))
