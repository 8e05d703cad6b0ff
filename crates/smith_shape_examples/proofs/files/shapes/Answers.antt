use Rattle.smith_shape_examples.proofs.FileLemmas.{empty_shape, magic_no_shape, only_empty, two_no_shape}
use Rattle.smith_shape_examples.proofs.files.shapes.Goals as goal
use Rattle.std.proofs.Common.{refl}

pub returns-clause-empty_module : goal.returns-clause-empty_module
returns-clause-empty_module c = λ binary. empty_shape

pub returns-clause-of_another_module : goal.returns-clause-of_another_module
returns-clause-of_another_module c = λ file. only_empty (file refl)

pub returns-clause-of_no_module : goal.returns-clause-of_no_module
returns-clause-of_no_module c = λ shape file. magic_no_shape shape (file refl)

pub returns-clause-of_a_text : goal.returns-clause-of_a_text
returns-clause-of_a_text c = λ shape binary. absurd (cc binary)

pub returns-clause-of_several_supertypes : goal.returns-clause-of_several_supertypes
returns-clause-of_several_supertypes c = λ shape file. two_no_shape shape (file refl)
