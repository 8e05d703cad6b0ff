use Rattle.smith_types.specs.Syntax.FeatureBits.{features_in}
use Rattle.smith_judge.proofs.ExplanationLemmas.{explained_file}
use Rattle.smith_judge.proofs.explanation.explain_body.Goals as goal

pub returns-in-Ok-clause-ok : goal.returns-in-Ok-clause-ok
returns-in-Ok-clause-ok c =
    explained_file (features_in c.args.features) c.args.bytes.now c.in-Ok.module c.args.place c.args.at c.explain.result
    c.in-Ok.ensures.sound c.in-Ok.ensures.enabled c.explain.ensures.ok
