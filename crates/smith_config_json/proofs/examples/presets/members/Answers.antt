use Rattle.std.proofs.Common.{refl}
use Rattle.smith_config_json.specs.Presets.{preset_named}
use Rattle.smith_config_json.proofs.examples.presets.members.Goals as goal

pub returns-clause-after_others : goal.returns-clause-after_others
unfolding preset_named
returns-clause-after_others c = refl

pub returns-clause-no_preset : goal.returns-clause-no_preset
returns-clause-no_preset c = refl

pub returns-clause-no_name : goal.returns-clause-no_name
returns-clause-no_name c = refl

pub returns-clause-fuel : goal.returns-clause-fuel
returns-clause-fuel c = refl

pub returns-clause-no_fuel : goal.returns-clause-no_fuel
returns-clause-no_fuel c = refl

pub returns-clause-exported : goal.returns-clause-exported
returns-clause-exported c = refl

pub returns-clause-unexported : goal.returns-clause-unexported
returns-clause-unexported c = refl

pub returns-clause-observed : goal.returns-clause-observed
returns-clause-observed c = refl

pub returns-clause-unobserved : goal.returns-clause-unobserved
returns-clause-unobserved c = refl
