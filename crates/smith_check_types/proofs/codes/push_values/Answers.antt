use Rattle.std.proofs.Common.{length}
use Rattle.smith_check_types.specs.Canonical.{rolled_index}
use Rattle.smith_check_types.specs.Codes.{val_codes}
use Rattle.smith_check_types.specs.Renamed.{renamed_val}
use Rattle.smith_check_types.proofs.PieceLemmas.{pieces_whole}
use Rattle.smith_check_types.proofs.codes.push_values.Goals as goal

pub returns-clause-ok : goal.returns-clause-ok
returns-clause-ok c =
    pieces_whole val_codes (renamed_val (rolled_index c.args.indices.now (length c.args.indices.now))) c.args.values.now
    c.loop-value.value-index
    c.args.codes.now _ c.loop-value.codes c.loop-value-test.false c.in_ok-push.ensures.ok c.loop-value.invariant
