use Rattle.smith_spell_examples.proofs.Common.{arith, ◌≡◌}
use Rattle.std.proofs.Common.{◌≤◌}
use Rattle.smith_bytes.specs.declared.error.Count.TheVariants as counts
use Rattle.smith_spell_examples.proofs.spell_answers.not_spelled.Goals as goal

pub returns-clause-beside_a_minimum : goal.returns-clause-beside_a_minimum
returns-clause-beside_a_minimum c = λ spellable. let never : 1 ≡ 0 = spellable.no_minimums counts.Types in cc never

pub returns-clause-where_the_configuration_fails : goal.returns-clause-where_the_configuration_fails
returns-clause-where_the_configuration_fails c = λ spellable. let few : 2147483649 ≤ 2147483648 = spellable.passes.few counts.Types in
    omega (arith, few)
