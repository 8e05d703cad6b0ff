use Rattle.smith_module_rules_examples.proofs.Common.{[], false, All-head, IsBodyValid, module_features, without_gc, raw_bytes}
use Rattle.smith_module_rules_examples.proofs.refused_modules.bodies.Goals as goal

pub returns-clause-raw_bytes_that_are_not_allowed : goal.returns-clause-raw_bytes_that_are_not_allowed
returns-clause-raw_bytes_that_are_not_allowed c = λ valid.
    let body = All-head (IsBodyValid (module_features without_gc) 1 false) raw_bytes [] valid.bodies in
    cc body.instructions
