use Rattle.smith_module_rules_examples.proofs.Common.{arith, [], Some, All-head, IsMemoryValid, module_features, memory, one_memory}
use Rattle.smith_module_rules_examples.proofs.RefusedExamples.{null_refused, name_refused, elements_refused, bytes_refused}
use Rattle.smith_module_rules_examples.proofs.refused_modules.refused.Goals as goal

pub returns-clause-by_its_entities : goal.returns-clause-by_its_entities
returns-clause-by_its_entities c = λ valid.
    let one = All-head (IsMemoryValid (module_features one_memory)) (memory 2 (Some 1)) [] valid.entities.memories in
    let (below, most) = one.limits.maximum_fits in
    omega (arith, below)

pub returns-clause-by_its_definitions : goal.returns-clause-by_its_definitions
returns-clause-by_its_definitions c = λ valid. null_refused valid.definitions

pub returns-clause-by_its_exports : goal.returns-clause-by_its_exports
returns-clause-by_its_exports c = λ valid. name_refused valid.exports

pub returns-clause-by_its_elements : goal.returns-clause-by_its_elements
returns-clause-by_its_elements c = λ valid. elements_refused valid.elems

pub returns-clause-by_its_data : goal.returns-clause-by_its_data
returns-clause-by_its_data c = λ valid. bytes_refused valid.data_segments
