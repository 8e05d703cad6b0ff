use Rattle.smith_module_rules_examples.proofs.Common.{arith, false, [], Some, All-head, funcref, nullable, IsTableValid, IsMemoryValid}
use Rattle.smith_module_rules_examples.proofs.Common.{IsGlobalValid, Concrete, Ref, module_features, memory, table, global, one_of_each}
use Rattle.smith_module_rules_examples.proofs.refused_modules.entities.Goals as goal

pub returns-clause-a_table_above_its_maximum : goal.returns-clause-a_table_above_its_maximum
returns-clause-a_table_above_its_maximum c = λ valid.
    let one = All-head (IsTableValid (module_features one_of_each) one_of_each.types) (table funcref 2 (Some 1)) [] valid.tables in
    let (below, most) = one.limits.maximum_fits in
    omega (arith, below)

pub returns-clause-a_memory_above_its_maximum : goal.returns-clause-a_memory_above_its_maximum
returns-clause-a_memory_above_its_maximum c = λ valid.
    let one = All-head (IsMemoryValid (module_features one_of_each)) (memory 2 (Some 1)) [] valid.memories in
    let (below, most) = one.limits.maximum_fits in
    omega (arith, below)

pub returns-clause-a_global_of_no_type : goal.returns-clause-a_global_of_no_type
returns-clause-a_global_of_no_type c = λ valid.
    let one = All-head (IsGlobalValid (module_features one_of_each) one_of_each.types) (global (Ref (nullable (Concrete 2))) false) []
    valid.globals in
    let (references, reference) = one.value in
    let (gc, within) = reference.heap_type in
    omega (arith, within)
