use Rattle.std.proofs.Common.{length}
use Rattle.smith_check_types.specs.Canonical.{rolled_index}
use Rattle.smith_check_types.specs.Codes.{field_codes}
use Rattle.smith_check_types.specs.Renamed.{renamed_field}
use Rattle.smith_check_types.proofs.PieceLemmas.{pieces_whole}
use Rattle.smith_check_types.proofs.codes.push_fields.Goals as goal

pub returns-clause-ok : goal.returns-clause-ok
returns-clause-ok c =
    pieces_whole field_codes (renamed_field (rolled_index c.args.indices.now (length c.args.indices.now))) c.args.fields.now
    c.loop-field.field-index
    c.args.codes.now _ c.loop-field.codes c.loop-field-test.false c.in_ok-push.ensures.ok c.loop-field.invariant
