use Rattle.std.proofs.Common.{refl, arith}
use Rattle.std.proofs.lemmas.Result.{IfOk-weaker, IfErr-weaker}
use Rattle.smith_request.specs.Output.{IsUnextended}
use Rattle.smith_request.proofs.manner.write_extended.Goals as goal

pub returns-in-Ok-clause-binary : goal.returns-in-Ok-clause-binary
returns-in-Ok-clause-binary c = λ is.
    IfOk-weaker c.write_in-bytes.result _ _ (λ bytes encoded. record {
      extended = _;
      is_extended = c.in-Ok.ensures.extended;
      encoded = encoded;
    })
    (c.write_in-bytes.ensures.binary is)

pub returns-in-Ok-clause-refused : goal.returns-in-Ok-clause-refused
returns-in-Ok-clause-refused c =
    IfErr-weaker c.write_in-bytes.result _ _ (λ refusal unwritten. IsUnextended.not_written c.in-Ok.ensures.extended unwritten)
    c.write_in-bytes.ensures.refused

pub returns-in-Err-clause-refused : goal.returns-in-Err-clause-refused
returns-in-Err-clause-refused c =
    IsUnextended.not_added (omega (arith, c.requires.some, c.requires.added)) c.in-Err.ensures.refused refl
