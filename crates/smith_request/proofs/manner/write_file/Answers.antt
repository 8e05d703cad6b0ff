use Rattle.std.proofs.Common.{refl, sym, subst}
use Rattle.std.proofs.lemmas.Result.{IfOk-weaker, IfErr-weaker}
use Rattle.smith_request.proofs.PlainLemmas.{binary_plain, lacks_memory}
use Rattle.smith_request.specs.Output.{IsUnwrittenWith}
use Rattle.smith_request.specs.declared.manner.Form.TheVariants.{Binary}
use Rattle.smith_request.proofs.manner.write_file.Goals as goal

pub finish-requires : goal.finish-requires
finish-requires c = record { plain = binary_plain c.args.additions c.args.program c.in-Ok.file.items (c.in-Ok.ensures.binary refl) }

pub returns-in-Ok-clause-binary : goal.returns-in-Ok-clause-binary
returns-in-Ok-clause-binary c =
    IfOk-weaker c.finish.result _ _
    (λ bytes finished. record { file = c.in-Ok.file.items; encoded = c.in-Ok.ensures.binary refl; finished = finished })
    (rw (c.has_customs-is_on.ensures, c.least_length-least.ensures) at c.finish.ensures.finished)

pub returns-in-Ok-clause-refused : goal.returns-in-Ok-clause-refused
returns-in-Ok-clause-refused c =
    IfErr-weaker c.finish.result _ _
    (λ refusal is. subst (IsUnwrittenWith Binary c.args.additions c.args.program) (sym is)
    (lacks_memory c.args.additions c.args.program c.in-Ok.file.items (c.in-Ok.ensures.binary refl)))
    c.finish.ensures.memory
