use Rattle.std.proofs.Common.{arith, None, refl}
use Rattle.smith_types.specs.ExampleEntities.{memory, all_addresses}
use Rattle.smith_types_examples.proofs.segments.bytes_inside.Goals as goal

pub returns-clause-within : goal.returns-clause-within
returns-clause-within c = (memory 1 None, refl, omega arith)

pub returns-clause-last_byte : goal.returns-clause-last_byte
returns-clause-last_byte c = (memory 65536 None, refl, omega arith)

pub returns-clause-last_of_all_addresses : goal.returns-clause-last_of_all_addresses
returns-clause-last_of_all_addresses c = (all_addresses, refl, omega arith)

pub returns-clause-nothing_at_the_end : goal.returns-clause-nothing_at_the_end
returns-clause-nothing_at_the_end c = (memory 1 None, refl, omega arith)

pub returns-clause-within_a_second_memory : goal.returns-clause-within_a_second_memory
returns-clause-within_a_second_memory c = (memory 1 None, refl, omega arith)
