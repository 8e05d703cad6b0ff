use Rattle.std.proofs.Common.{length, ◌∙◌}
use Rattle.smith_check_types.specs.Canonical.{rolled_index}
use Rattle.smith_check_types.specs.Codes.{type_codes}
use Rattle.smith_check_types.specs.Renamed.{renamed}
use Rattle.smith_check_types.proofs.PieceLemmas.{pieces_all}
use Rattle.smith_check_types.proofs.codes.codes_of_group.Goals as goal

pub returns-clause-ok : goal.returns-clause-ok
returns-clause-ok c =
    c.into_vec.ensures ∙ c.loop-ty.invariant
    ∙ pieces_all type_codes (renamed (rolled_index c.args.indices.now (length c.args.indices.now))) c.args.group.now c.loop-ty.ty-index
    c.loop-ty-test.false
