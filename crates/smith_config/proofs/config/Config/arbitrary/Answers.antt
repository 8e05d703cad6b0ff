use Rattle.std.proofs.Common.{subst, ap}
use Rattle.smith_config.specs.Faults.{Passes}
use Rattle.smith_config.proofs.DrawnConfigLemmas.{config_at-passes}
use Rattle.smith_config.proofs.config.Config.arbitrary.Goals as goal

pub returns-clause-passes : goal.returns-clause-passes
returns-clause-passes c = subst Passes (ap (λ drawn. drawn.0) c.draw.ensures.exact) (config_at-passes _)
