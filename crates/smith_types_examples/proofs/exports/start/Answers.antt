use Rattle.smith_types_examples.proofs.Common.{refl, final_type, plain_func}
use Rattle.smith_types_examples.proofs.exports.start.Goals as goal

pub returns-clause-taking_and_giving_nothing : goal.returns-clause-taking_and_giving_nothing
returns-clause-taking_and_giving_nothing c = (0, refl, (final_type plain_func, refl, refl))
