use Rattle.std.proofs.lemmas.Result.{IfOk-weaker, IfErr-weaker}
use Rattle.smith_request.specs.Output.{IsUnwrittenWith}
use Rattle.smith_request.proofs.manner.write_without_customs.Goals as goal

pub write_with_additions-requires : goal.write_with_additions-requires
write_with_additions-requires c = record { valid = λ observed. c.in-Ok.ensures.valid (c.requires.valid observed) }

pub returns-in-Ok-clause-binary : goal.returns-in-Ok-clause-binary
returns-in-Ok-clause-binary c = λ is.
    IfOk-weaker c.write_with_additions.result _ _
    (λ bytes encoded. record { canonical = _; nans = c.in-Ok.ensures.canonical; encoded = encoded })
    (c.write_with_additions.ensures.binary is)

pub returns-in-Ok-clause-refused : goal.returns-in-Ok-clause-refused
returns-in-Ok-clause-refused c =
    IfErr-weaker c.write_with_additions.result _ _
    (λ refusal unextended. IsUnwrittenWith.not_extended c.in-Ok.ensures.canonical unextended)
    c.write_with_additions.ensures.refused

pub returns-in-Err-clause-refused : goal.returns-in-Err-clause-refused
returns-in-Err-clause-refused c = IsUnwrittenWith.not_canonical c.in-Err.ensures.refused
