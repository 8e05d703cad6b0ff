use Rattle.std.proofs.Common.{refl}
use Rattle.std.proofs.lemmas.Result.{IfOk-weaker, IfErr-weaker}
use Rattle.smith_request.specs.Output.{IsRefusedFor}
use Rattle.smith_request.proofs.PlainLemmas.{file_of}
use Rattle.smith_request.proofs.manner.output.Goals as goal

pub write_program-requires : goal.write_program-requires
write_program-requires c = record { valid = λ observed. c.in-Ok.ensures.valid.valid }

pub returns-in-Ok-clause-binary : goal.returns-in-Ok-clause-binary
returns-in-Ok-clause-binary c = λ is.
    IfOk-weaker c.write_program.result _ _
    (λ bytes written. record { program = _; drawn = c.in-Ok.ensures; written = file_of c.in-Ok.ensures written })
    (c.write_program.ensures.binary is)

pub returns-in-Ok-clause-text : goal.returns-in-Ok-clause-text
returns-in-Ok-clause-text c = λ layout is.
    IfOk-weaker c.write_program.result _ _ (λ bytes is_text. record { program = _; drawn = c.in-Ok.ensures; is_text = is_text })
    (c.write_program.ensures.text layout is)

pub returns-in-Ok-clause-refused : goal.returns-in-Ok-clause-refused
returns-in-Ok-clause-refused c =
    IfErr-weaker c.write_program.result _ _ (λ refusal unwritten. IsRefusedFor.not_written c.in-Ok.ensures unwritten)
    c.write_program.ensures.refused

pub returns-in-Err-clause-refused : goal.returns-in-Err-clause-refused
returns-in-Err-clause-refused c = IsRefusedFor.not_drawn c.in-Err.ensures refl
