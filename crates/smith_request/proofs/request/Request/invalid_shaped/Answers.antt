use Rattle.std.proofs.lemmas.Result.{IfErr-weaker, IfOk-weaker}
use Rattle.smith_request.specs.Invalid.{IsShapedInvalidRefusal}
use Rattle.smith_request.proofs.request.Request.invalid_shaped.Goals as goal

pub returns-in-Ok-clause-file : goal.returns-in-Ok-clause-file
returns-in-Ok-clause-file c =
    IfOk-weaker c.invalid.result _ _
    (λ wrong made. record { shaped = c.in-Ok.request; is_shaped = c.in-Ok.ensures.ok; invalid = made }) c.invalid.ensures.file

pub returns-in-Ok-clause-refused : goal.returns-in-Ok-clause-refused
returns-in-Ok-clause-refused c =
    IfErr-weaker c.invalid.result _ _ (λ refusal unmade. IsShapedInvalidRefusal.unmade c.in-Ok.request c.in-Ok.ensures.ok unmade)
    c.invalid.ensures.refused
