use Rattle.std.proofs.Common.{rules, refl}
use Rattle.smith_bytes_examples.proofs.kebab.kebab_names.Goals as goal

pub returns-clause-two_dashes : goal.returns-clause-two_dashes
returns-clause-two_dashes c = λ kebab. let following = kebab.dashes 1 refl in search rules

pub returns-clause-dash_at_the_end : goal.returns-clause-dash_at_the_end
returns-clause-dash_at_the_end c = λ kebab. let following = kebab.dashes 1 refl in search rules
