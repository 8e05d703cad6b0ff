use Rattle.smith_check_module.proofs.ExampleLemmas.{no_export}
use Rattle.smith_check_module.proofs.examples.missing.Goals as goal

pub returns-clause-exported : goal.returns-clause-exported
returns-clause-exported c = no_export

pub returns-clause-started : goal.returns-clause-started
returns-clause-started c = λ valid. let (index, at, is) = valid.sections.start in cc at
