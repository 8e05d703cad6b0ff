use Rattle.std.proofs.Common.{arith, None, refl}
use Rattle.smith_types.specs.Flags.{funcref}
use Rattle.smith_types.specs.ExampleEntities.{table}
use Rattle.smith_types_examples.proofs.segments.elements_inside.Goals as goal

pub returns-clause-within : goal.returns-clause-within
returns-clause-within c = (table funcref 1 None, refl, omega arith)

pub returns-clause-nothing_at_the_end : goal.returns-clause-nothing_at_the_end
returns-clause-nothing_at_the_end c = (table funcref 1 None, refl, omega arith)

pub returns-clause-expressions_within : goal.returns-clause-expressions_within
returns-clause-expressions_within c = (table funcref 2 None, refl, omega arith)

pub returns-clause-within_a_second_table : goal.returns-clause-within_a_second_table
returns-clause-within_a_second_table c = (table funcref 1 None, refl, omega arith)
