use Rattle.smith_spell_examples.proofs.Common.{◌≡◌}
use Rattle.smith_bytes.specs.declared.error.Count.TheVariants as counts
use Rattle.smith_spell_examples.proofs.spell_answers.refused.Goals as goal

pub returns-clause-memory_beside_a_minimum : goal.returns-clause-memory_beside_a_minimum
returns-clause-memory_beside_a_minimum c = λ refused. let never : 1 ≡ 0 = refused.groups_alone.no_minimums counts.Types in cc never
