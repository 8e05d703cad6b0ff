use Rattle.std.proofs.Common.{refl}
use Rattle.smith_c.specs.Files.{IsInvalidMade}
use Rattle.smith_c.proofs.smith_invalid_with.Goals as goal

pub returns-in-Ok : goal.returns-in-Ok
returns-in-Ok c = IsInvalidMade.made (rw c.request.ensures at c.in-Ok.ensures.file) c.put_file.ensures.fault c.put_file.ensures.file

pub returns-in-Err : goal.returns-in-Err
returns-in-Err c = IsInvalidMade.refused (rw c.request.ensures at c.in-Err.ensures.refused) refl refl
    (rw c.status.ensures at c.without_output.ensures)
