use Rattle.smith_check.proofs.JudgeLemmas.{refused_judgement, typed_right}
use Rattle.smith_check.proofs.functions.FunctionJudge.check_body_at.Goals as goal

pub returns-in-Typed-clause-decided : goal.returns-in-Typed-clause-decided
returns-in-Typed-clause-decided c =
    typed_right c.args.self.now c.args.place c.requires.judge c.args.function.now c.args.body.now c.requires.parts c.requires.locals
    (rw c.in-Typed.is at c.in_ok-verdict.ensures.decided)

pub returns-in-Refused-clause-decided : goal.returns-in-Refused-clause-decided
returns-in-Refused-clause-decided c =
    refused_judgement c.args.self.now c.args.place c.requires.judge c.requires.before c.args.function.now c.args.body.now c.in-Refused.at
    c.requires.parts c.requires.locals (rw c.in-Refused.is at c.in_ok-verdict.ensures.decided)
