use Rattle.smith_module_rules_examples.proofs.Common.{arith, ◌≡◌, ◌≤◌, refl, codes, ModuleShape}
use Rattle.smith_bytes.specs.declared.error.Count.TheVariants as counts
use Rattle.smith_module_rules_examples.proofs.ShapeExamples.{no_imports_fixed}
use Rattle.smith_module_rules_examples.proofs.refusals.given.Goals as goal

pub returns-clause-too_many_imports_asked_for : goal.returns-clause-too_many_imports_asked_for
returns-clause-too_many_imports_asked_for c = λ given. let never : 101 ≤ 100 = given.passes.ordered counts.Imports no_imports_fixed in
    omega (arith, never)

pub returns-clause-a_name_twice : goal.returns-clause-a_name_twice
returns-clause-a_name_twice c = λ given. let never : 0 ≡ 1 = (given.shapes_valid ModuleShape).consistent.exports.distinct.once 0 1
    (codes "m") refl refl in cc never
