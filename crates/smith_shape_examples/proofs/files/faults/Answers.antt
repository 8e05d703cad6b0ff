use Rattle.std.proofs.Common.{◌∙◌, arith, refl, sym}
use Rattle.smith_shape_examples.proofs.FileLemmas.{empty_read, magic_left, magic_read, none_several, two_several}
use Rattle.smith_shape_examples.proofs.files.faults.Goals as goal

pub returns-clause-cut_module : goal.returns-clause-cut_module
returns-clause-cut_module c = (refl, (0, magic_read, refl))

pub returns-clause-at_another_byte : goal.returns-clause-at_another_byte
returns-clause-at_another_byte c = λ (binary, (left, read, at)). let last = magic_left left _ read in omega (arith, at, last)

pub returns-clause-of_a_module : goal.returns-clause-of_a_module
returns-clause-of_a_module c = λ (binary, (left, read, at)). let e = sym empty_read ∙ read in cc

pub returns-clause-in_a_text : goal.returns-clause-in_a_text
returns-clause-in_a_text c = (refl, omega arith)

pub returns-clause-past_its_end : goal.returns-clause-past_its_end
returns-clause-past_its_end c = λ (binary, within). omega (arith, within)

pub returns-clause-binary_in_a_text : goal.returns-clause-binary_in_a_text
returns-clause-binary_in_a_text c = λ (binary, undecoded). absurd (cc binary)

pub returns-clause-text_in_a_binary : goal.returns-clause-text_in_a_binary
returns-clause-text_in_a_binary c = λ (binary, within). absurd (cc binary)

pub returns-clause-several_supertypes : goal.returns-clause-several_supertypes
returns-clause-several_supertypes c = (refl, two_several)

pub returns-clause-no_supertype : goal.returns-clause-no_supertype
returns-clause-no_supertype c = λ (binary, file). none_several file
