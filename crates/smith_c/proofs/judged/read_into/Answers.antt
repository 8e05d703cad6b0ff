use Rattle.std.proofs.Common.{◌≢◌}
use Rattle.smith_config_json.specs.declared.fault.Fault.TheVariants.{OutOfMemory}
use Rattle.smith_c.proofs.judged.read_into.Goals as goal

pub returns-in-Err-clause-refused : goal.returns-in-Err-clause-refused
returns-in-Err-clause-refused c = λ h.
    let given : c.in-Err.refusal.fault ≢ OutOfMemory = rw c.in_text.ensures.reason.0 at h in (
      c.read_text.new.config,
      rw (c.in_text.ensures.reason.0, c.in_text.ensures.reason.1) (c.in-Err.ensures.refused given),
    )
