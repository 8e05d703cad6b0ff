use Rattle.std.proofs.Common.{refl}
use Rattle.smith_config_json.specs.Fields.{fields}
use Rattle.smith_config_json.proofs.examples.fields.kinds.Goals as goal

pub returns-clause-byte : goal.returns-clause-byte
unfolding fields
returns-clause-byte c = refl

pub returns-clause-truth : goal.returns-clause-truth
unfolding fields
returns-clause-truth c = tt

pub returns-clause-no_member_of_config : goal.returns-clause-no_member_of_config
unfolding fields
returns-clause-no_member_of_config c = tt

pub returns-clause-sinks : goal.returns-clause-sinks
unfolding fields
returns-clause-sinks c = tt

pub returns-clause-path : goal.returns-clause-path
unfolding fields
returns-clause-path c = tt

pub returns-clause-no_field : goal.returns-clause-no_field
unfolding fields
returns-clause-no_field c = tt
