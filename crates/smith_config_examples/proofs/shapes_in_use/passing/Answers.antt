use Rattle.smith_config_examples.proofs.Common.{rules, arith, ◌≤◌, refl}
use Rattle.smith_bytes.specs.declared.error.Count.TheVariants as counts
use Rattle.smith_config_examples.proofs.shapes_in_use.passing.Goals as goal

pub returns-clause-imports_beside_exports : goal.returns-clause-imports_beside_exports
returns-clause-imports_beside_exports c = λ passes. let never : 101 ≤ 100 = passes.ordered counts.Imports (search rules) in
    omega (arith, never)

pub returns-clause-exports_beside_imports : goal.returns-clause-exports_beside_imports
returns-clause-exports_beside_imports c = λ passes. let never : 101 ≤ 100 = passes.ordered counts.Exports (search rules, refl) in
    omega (arith, never)
