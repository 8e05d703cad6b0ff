use Rattle.std.proofs.lemmas.Result.{IfOk-weaker}
use Rattle.smith_config.specs.InUse.{HasNoShapes}
use Rattle.smith_request.specs.declared.request.Request.{Request}
use Rattle.smith_request.proofs.ShapelessLemmas.{request_has_no_shapes}
use Rattle.smith_request.proofs.request.Request.read.Goals as goal

pub returns-in-Ok-clause-shapeless : goal.returns-in-Ok-clause-shapeless
returns-in-Ok-clause-shapeless c =
    IfOk-weaker c.parse.result _ (λ (request : Request). HasNoShapes request.config)
    (λ request is. request_has_no_shapes c.in-Ok.text.now request is) c.parse.ensures.ok
