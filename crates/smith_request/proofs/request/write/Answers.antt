use Rattle.std.proofs.lemmas.Result.{IfErr-weaker, IfOk-weaker}
use Rattle.smith_request.proofs.RequestLemmas.{binary_of, refusal_of, text_of}
use Rattle.smith_request.proofs.request.write.Goals as goal

pub returns-in-Ok-clause-refused : goal.returns-in-Ok-clause-refused
returns-in-Ok-clause-refused c = IfErr-weaker c.write.result _ _ (refusal_of c.args.form c.in-Ok.ensures.ok) c.write.ensures.refused

pub returns-in-Ok-clause-binary : goal.returns-in-Ok-clause-binary
returns-in-Ok-clause-binary c = λ is.
    IfOk-weaker c.write.result _ _ (λ bytes made. binary_of c.in-Ok.ensures.ok bytes.items made) (c.write.ensures.binary is)

pub returns-in-Ok-clause-text : goal.returns-in-Ok-clause-text
returns-in-Ok-clause-text c = λ layout is.
    IfOk-weaker c.write.result _ _ (λ bytes made. text_of c.in-Ok.ensures.ok bytes.items made) (c.write.ensures.text layout is)
