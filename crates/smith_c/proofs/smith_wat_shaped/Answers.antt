use Rattle.std.proofs.Common.{refl}
use Rattle.smith_text.specs.declared.module.Layout.TheVariants.{Signatures}
use Rattle.smith_c.specs.CallAnswers.{made, refused}
use Rattle.smith_c.proofs.smith_wat_shaped.Goals as goal

pub returns-in-Ok : goal.returns-in-Ok
returns-in-Ok c = made (rw c.request.ensures at (c.in-Ok.ensures.text Signatures refl)) (rw c.as_slice.ensures.value at c.put.ensures)

pub returns-in-Err : goal.returns-in-Err
returns-in-Err c = refused (rw c.request.ensures at c.in-Err.ensures.refused) refl (rw c.status.ensures at c.without_output.ensures)
