use Rattle.smith_encode.proofs.Common.{Custom}
use Rattle.smith_encode.specs.TooLong.{IsTooLong}
use Rattle.smith_encode.proofs.ModuleLemmas.{module_spelled, module_refused, nothing_left, some_left, handed_on}
use Rattle.smith_encode.proofs.modules.write_module.Goals as goal

pub returns-clause-spelled : goal.returns-clause-spelled
returns-clause-spelled c =
    let counted = c.in_ok-place.ensures.writes in
    λ done. module_spelled c.args.module.now counted.0 c.requires.parts counted.1 c.requires.empty c.in_ok-write_preamble.ensures.writes
    counted.2 c.in_ok-place-2.ensures.writes (nothing_left _ c.is_empty.result c.is_empty.ensures done)

pub returns-clause-refused : goal.returns-clause-refused
returns-clause-refused c =
    let counted = c.in_ok-place.ensures.writes in
    λ some. module_refused c.args.module.now counted.0 counted.2 c.in_ok-place-2.ensures.writes c.in_ok-place-2.ensures.done
    (some_left Custom _ c.is_empty.result c.is_empty.ensures some)

pub returns-in_err-place-2-clause-fault : goal.returns-in_err-place-2-clause-fault
returns-in_err-place-2-clause-fault c =
    let counted = c.in_ok-place.ensures.writes in
    handed_on c.from_residual-in_err-place-2.result c.in_err-place-2.field-0.0 c.from_residual-in_err-place-2.ensures.1
    (λ long. IsTooLong.customs (counted.2.leads.rest long)) c.in_err-place-2.ensures.fault
