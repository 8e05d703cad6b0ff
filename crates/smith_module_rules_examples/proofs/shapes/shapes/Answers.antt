use Rattle.smith_module_rules_examples.proofs.Common.{rules}
use Rattle.smith_module_rules_examples.proofs.ShapeExamples.{five_kept, both_kept}
use Rattle.smith_module_rules_examples.proofs.shapes.shapes.Goals as goal

pub returns-clause-of_exports : goal.returns-clause-of_exports
returns-clause-of_exports c = record { module_shape = search rules; available_imports = search rules; exports = five_kept }

pub returns-clause-of_available_imports : goal.returns-clause-of_available_imports
returns-clause-of_available_imports c = record { module_shape = search rules; available_imports = both_kept; exports = search rules }
