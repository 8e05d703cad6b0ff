use Rattle.smith_module_rules_examples.proofs.Common.{arith, [], ◌∷◌, false, codes, All-head, IsImportsValid, Compact2, default_config}
use Rattle.smith_module_rules_examples.proofs.Common.{features_of, module_features, number, two_imports}
use Rattle.smith_types.specs.Syntax.entity_type.EntityType.TheVariants as entity
use Rattle.smith_module_rules_examples.proofs.refused_modules.imports.Goals as goal

pub returns-clause-an_empty_group : goal.returns-clause-an_empty_group
returns-clause-an_empty_group c = λ valid.
    let group = All-head (IsImportsValid (module_features two_imports)) (Compact2 [] (entity.Global number) []) [] valid in
    omega (arith, group.filled)

pub returns-clause-a_group_without_its_feature : goal.returns-clause-a_group_without_its_feature
returns-clause-a_group_without_its_feature c = λ valid.
    let group = All-head (IsImportsValid (features_of (record default_config { compact_imports_enabled = false })))
    (Compact2 [] (entity.Global number) ([] ∷ codes "b" ∷ [])) [] valid in
    cc group.enabled
