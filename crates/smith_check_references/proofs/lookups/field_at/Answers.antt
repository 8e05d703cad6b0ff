use Rattle.smith_check_references.proofs.lookups.field_at.Goals as goal

pub returns-in-None : goal.returns-in-None
returns-in-None c = λ field at. c.in-None.ensures at.fields at.structure
