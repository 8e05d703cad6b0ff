use Rattle.smith_types_examples.proofs.TypeExamples.{itself_not_before}
use Rattle.smith_types_examples.proofs.types.sound.Goals as goal

pub returns-clause-its_own_supertype : goal.returns-clause-its_own_supertype
returns-clause-its_own_supertype c = λ sound. itself_not_before sound.orderly
