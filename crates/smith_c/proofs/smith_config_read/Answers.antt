use Rattle.std.proofs.Common.{refl}
use Rattle.smith_c.specs.KeptConfigs.{refused}
use Rattle.smith_c.proofs.smith_config_read.Goals as goal

pub returns-in-Err : goal.returns-in-Err
returns-in-Err c = refused c.in-Err.refusal c.in-Err.ensures.refused refl (rw c.status.ensures at c.without_output-in-Err.ensures)
