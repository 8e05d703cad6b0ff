use Rattle.std.proofs.Common.{◌≡◌, ◌-◌, ◌^◌, arith}
use Rattle.smith_config_json.specs.Fields.{fields}
use Rattle.smith_config_json.proofs.examples.fields.other_kinds.Goals as goal

pub returns-clause-word : goal.returns-clause-word
unfolding fields
returns-clause-word c same = let never : 2 ^ 8 - 1 ≡ 2 ^ 32 - 1 = same in omega (arith, never)

pub returns-clause-truth : goal.returns-clause-truth
unfolding fields
returns-clause-truth c never = never

pub returns-clause-no_kind : goal.returns-clause-no_kind
unfolding fields
returns-clause-no_kind c never = never

pub returns-clause-no_field : goal.returns-clause-no_field
unfolding fields
returns-clause-no_field c never = never
