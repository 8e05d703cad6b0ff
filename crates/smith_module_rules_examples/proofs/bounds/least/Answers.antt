use Rattle.smith_module_rules_examples.proofs.Common.{arith, ◌≤◌, [], ◌∷◌, refl, All-head, Expressions, default_config, HasEnough}
use Rattle.smith_module_rules_examples.proofs.Common.{no_function, passive_elements, elements_asked_for}
use Rattle.smith_bytes.specs.declared.error.Count.TheVariants as counts
use Rattle.smith_module_rules_examples.proofs.ShapeExamples.{no_exports_fixed}
use Rattle.smith_module_rules_examples.proofs.bounds.least.Goals as goal

pub returns-clause-no_function : goal.returns-clause-no_function
returns-clause-no_function c = λ minimums. let never : 1 ≤ 0 = minimums.least counts.Funcs tt in omega (arith, never)

pub returns-clause-no_export : goal.returns-clause-no_export
returns-clause-no_export c = λ minimums. let never : 1 ≤ 0 = minimums.least counts.Exports (no_exports_fixed, refl) in omega (arith, never)

one_of_two : HasEnough (record default_config { min_elements = 2 }) (elements_asked_for 2 (Expressions (no_function ∷ [])))
    (passive_elements (Expressions (no_function ∷ []))) → ⊥
one_of_two = search arith

pub returns-clause-too_few : goal.returns-clause-too_few
returns-clause-too_few c = λ minimums.
    one_of_two (All-head (HasEnough (record default_config { min_elements = 2 }) (elements_asked_for 2 (Expressions (no_function ∷ []))))
    (passive_elements (Expressions (no_function ∷ []))) [] minimums.elems)
