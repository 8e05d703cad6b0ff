use Rattle.smith_types.specs.Syntax.FeatureBits.{features_in}
use Rattle.smith_judge.proofs.AnswerLemmas.{decides_all}
use Rattle.smith_judge.proofs.judgement.judge.Goals as goal

pub returns-clause-decided : goal.returns-clause-decided
returns-clause-decided c = decides_all (features_in c.args.features) c.args.bytes.now c.judge_file.result c.judge_file.ensures.right
