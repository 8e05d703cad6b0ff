use Rattle.smith_binary_program.proofs.AccessLemmas.{forms_enabled}
use Rattle.smith_binary_program.proofs.ReferenceFormLemmas.{long_references}
use Rattle.smith_binary_program.proofs.laws.forms_are_enabled.Goals as goal

pub returns : goal.returns
returns c = record { enabled = forms_enabled; long_references = long_references }
