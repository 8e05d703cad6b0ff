use Rattle.std.proofs.Common.{refl}
use Rattle.smith_config_json.specs.Fields.{fields}
use Rattle.smith_config_json.specs.Objects.{repeats, refuses, sets}
use Rattle.smith_config_json.specs.Values.{refuses as list_refuses}
use Rattle.smith_config_json.proofs.examples.objects.refusals.Goals as goal

pub returns-clause-unknown : goal.returns-clause-unknown
unfolding fields
returns-clause-unknown c = refuses refl refl refl

pub returns-clause-repeated : goal.returns-clause-repeated
unfolding fields
returns-clause-repeated c = sets refl refl refl (repeats refl refl)

pub returns-clause-wrong_type : goal.returns-clause-wrong_type
unfolding fields
returns-clause-wrong_type c = refuses refl refl refl

pub returns-clause-wrong_type_of_no_field : goal.returns-clause-wrong_type_of_no_field
unfolding fields
returns-clause-wrong_type_of_no_field c = refuses refl refl refl

pub returns-clause-out_of_range : goal.returns-clause-out_of_range
unfolding fields
returns-clause-out_of_range c = refuses refl refl refl

pub returns-clause-zeros : goal.returns-clause-zeros
unfolding fields
returns-clause-zeros c = refuses refl refl refl

pub returns-clause-no_name : goal.returns-clause-no_name
unfolding fields
returns-clause-no_name c = refuses refl refl (_, _, (_, list_refuses refl, refl), refl)
