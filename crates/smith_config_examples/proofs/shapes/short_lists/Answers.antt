use Rattle.smith_config_examples.proofs.Common.{◌≤◌, length, arith, final_type, struct, taking, giving}
use Rattle.smith_config_examples.proofs.shapes.short_lists.Goals as goal

pub returns-clause-params : goal.returns-clause-params
returns-clause-params c = λ params long short. let fits : length params ≤ 536870912 =
    (short.inner 0 (final_type (taking params)) (omega arith)).0 in omega (arith, long, fits)

pub returns-clause-results : goal.returns-clause-results
returns-clause-results c = λ results long short. let fits : length results ≤ 536870912 =
    (short.inner 0 (final_type (giving results)) (omega arith)).1 in omega (arith, long, fits)

pub returns-clause-fields : goal.returns-clause-fields
returns-clause-fields c = λ fields long short. let fits : length fields ≤ 536870912 = short.inner 0 (final_type (struct fields))
    (omega arith) in omega (arith, long, fits)
