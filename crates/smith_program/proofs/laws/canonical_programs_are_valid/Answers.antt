use Rattle.smith_program.proofs.CanonicalProgramLemmas.{canonical_program_valid}
use Rattle.smith_program.proofs.laws.canonical_programs_are_valid.Goals as goal

pub returns : goal.returns
returns c = canonical_program_valid
