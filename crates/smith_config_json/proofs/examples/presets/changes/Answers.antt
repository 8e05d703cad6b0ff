use Rattle.std.proofs.Common.{refl}
use Rattle.smith_config_json.specs.Presets.{with_preset}
use Rattle.smith_config_json.proofs.examples.presets.changes.Goals as goal

pub returns-clause-engine : goal.returns-clause-engine
unfolding with_preset
returns-clause-engine c = refl

pub returns-clause-of_another : goal.returns-clause-of_another
unfolding with_preset
returns-clause-of_another c = refl

pub returns-clause-first_version : goal.returns-clause-first_version
unfolding with_preset
returns-clause-first_version c = refl

pub returns-clause-proposals : goal.returns-clause-proposals
unfolding with_preset
returns-clause-proposals c = refl

pub returns-clause-runs : goal.returns-clause-runs
unfolding with_preset
returns-clause-runs c = refl
