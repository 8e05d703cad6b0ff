use Rattle.smith_custom_sections_law.proofs.AmongLemmas.{kept_module}
use Rattle.smith_custom_sections_law.proofs.laws.custom_sections_keep_modules.Goals as goal

pub returns : goal.returns
returns c = kept_module
