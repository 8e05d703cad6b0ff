use Rattle.smith_types.specs.Syntax.FeatureBits.{features_in}
use Rattle.smith_judge.proofs.AnswerLemmas.{malformed}
use Rattle.smith_judge.proofs.judgement.judge_file.Goals as goal

pub returns-in-Err-Malformed-clause-right : goal.returns-in-Err-Malformed-clause-right
returns-in-Err-Malformed-clause-right c =
    let made = malformed (features_in c.args.features) c.args.bytes.now c.in-Err-Malformed.field-0 c.in-Err-Malformed.offset
    c.in-Err-Malformed.reason c.in-Err-Malformed.field-0-is c.in-Err-Malformed.ensures.complete c.in-Err-Malformed.ensures.exact in
    rw (c.in-Err-Malformed.offset-is, c.in-Err-Malformed.reason-is) made
