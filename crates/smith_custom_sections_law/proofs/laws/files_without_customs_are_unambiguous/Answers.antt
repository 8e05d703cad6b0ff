use Rattle.smith_custom_sections_law.proofs.LeftSameLemmas.{one_file}
use Rattle.smith_custom_sections_law.proofs.laws.files_without_customs_are_unambiguous.Goals as goal

pub returns : goal.returns
returns c = one_file
