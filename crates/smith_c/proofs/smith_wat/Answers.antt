use Rattle.std.proofs.Common.{refl}
use Rattle.smith_c.specs.CallAnswers.{made, refused}
use Rattle.smith_c.proofs.smith_wat.Goals as goal

pub returns-in-Ok : goal.returns-in-Ok
returns-in-Ok c = made c.in-Ok.ensures.ok (rw c.as_slice.ensures.value at c.put.ensures)

pub returns-in-Err : goal.returns-in-Err
returns-in-Err c = refused c.in-Err.ensures.refused refl (rw c.status.ensures at c.without_output.ensures)
