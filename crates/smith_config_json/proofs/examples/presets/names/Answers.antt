use Rattle.std.proofs.Common.{refl}
use Rattle.smith_config_json.specs.Presets.{preset_named}
use Rattle.smith_config_json.proofs.examples.presets.names.Goals as goal

pub returns-clause-first : goal.returns-clause-first
unfolding preset_named
returns-clause-first c = refl

pub returns-clause-last : goal.returns-clause-last
unfolding preset_named
returns-clause-last c = refl

pub returns-clause-in_capitals : goal.returns-clause-in_capitals
unfolding preset_named
returns-clause-in_capitals c = refl

pub returns-clause-empty : goal.returns-clause-empty
unfolding preset_named
returns-clause-empty c = refl
