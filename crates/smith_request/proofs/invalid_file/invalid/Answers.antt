use Rattle.std.proofs.lemmas.Result.{IfErr-weaker, IfOk-weaker}
use Rattle.smith_request.specs.Invalid.{IsInvalidRefusal}
use Rattle.smith_request.proofs.invalid_file.invalid.Goals as goal

pub returns-in-Ok-clause-file : goal.returns-in-Ok-clause-file
returns-in-Ok-clause-file c =
    IfOk-weaker c.invalid.result _ _
    (λ wrong made. record { config = c.in-Ok.request.config; configured = c.in-Ok.ensures.ok.configured; invalid = made })
    c.invalid.ensures.file

pub returns-in-Ok-clause-refused : goal.returns-in-Ok-clause-refused
returns-in-Ok-clause-refused c =
    IfErr-weaker c.invalid.result _ _
    (λ refusal unmade. IsInvalidRefusal.not_made c.in-Ok.request.config c.in-Ok.ensures.ok.configured unmade) c.invalid.ensures.refused
