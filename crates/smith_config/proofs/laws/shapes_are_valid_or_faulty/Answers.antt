use Rattle.smith_config.proofs.ShapeLemmas.{no_fault, not_invalid}
use Rattle.smith_config.proofs.laws.shapes_are_valid_or_faulty.Goals as goal

pub returns : goal.returns
returns c = record { faultless = no_fault; valid = not_invalid }
