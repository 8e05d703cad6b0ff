use Rattle.smith_config_examples.proofs.Common.{◌≡◌, true, false, None, arith, refl, open_type, plain_func}
use Rattle.smith_config_examples.proofs.shape_faults.plainness.Goals as goal

pub returns-clause-function_of_a_type_that_is_not_final : goal.returns-clause-function_of_a_type_that_is_not_final
returns-clause-function_of_a_type_that_is_not_final c =
    (refl, λ plain. let never : false ≡ true = (plain.types 0 (open_type None plain_func) (omega arith)).final in cc never)
