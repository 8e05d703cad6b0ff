use Rattle.std.proofs.Common.{refl, arith}
use Rattle.smith_wrong_bytes.specs.declared.family.BytesFamily.TheVariants as bytes
use Rattle.smith_wrong.proofs.examples.preambles.Goals as goal

pub returns-clause-with_one : goal.returns-clause-with_one
returns-clause-with_one c = λ without. without bytes.CutFile (1, omega arith, refl) tt
