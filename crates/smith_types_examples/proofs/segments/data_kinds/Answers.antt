use Rattle.std.proofs.Common.{None, refl}
use Rattle.smith_types.specs.ExampleEntities.{memory, all_addresses}
use Rattle.smith_types_examples.proofs.segments.data_kinds.Goals as goal

pub returns-clause-into_a_memory : goal.returns-clause-into_a_memory
returns-clause-into_a_memory c = (memory 1 None, refl, refl)

pub returns-clause-into_a_wide_memory : goal.returns-clause-into_a_wide_memory
returns-clause-into_a_wide_memory c = (all_addresses, refl, refl)
