use Rattle.smith_check_references.proofs.Common.{field_values, ◌∙◌}
use Rattle.smith_check_operands.proofs.FitLemmas.{fit_length}
use Rattle.smith_check_references.proofs.CopyLemmas.{length_values}
use Rattle.smith_check_references.proofs.structs.fields_fit.Goals as goal

pub returns-then-slots-fields : goal.returns-then-slots-fields
returns-then-slots-fields c = (
  λ never. cc,
  λ fit. absurd (c.if-slots-fields.true (fit_length c.args.types.now.types c.args.slots.now (field_values c.args.fields.now) fit
      ∙ length_values c.args.fields.now)),
)
