use Rattle.std.proofs.Common.{refl}
use Rattle.smith_c.specs.Files.{IsChecked}
use Rattle.smith_c.proofs.smith_check.Goals as goal

pub returns-in-Ok : goal.returns-in-Ok
returns-in-Ok c = IsChecked.judged c.in-Ok.ensures.right c.as_bytes.ensures.utf8 c.put.ensures

pub returns-in-Err : goal.returns-in-Err
returns-in-Err c = IsChecked.refused c.in-Err.ensures.refused refl refl (rw c.status.ensures at c.without_output.ensures)
