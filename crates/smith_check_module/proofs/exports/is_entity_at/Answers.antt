use Rattle.std.proofs.Common.{rules}
use Rattle.smith_check_module.proofs.Common.{spaces_in}
use Rattle.smith_validity.proofs.StandingEntityLemmas.{entity_there, entity_within}
use Rattle.smith_check_module.proofs.exports.is_entity_at.Goals as goal

pub returns : goal.returns
returns c =
    let spaces = spaces_in c.args.spaces.now in (
      λ yes. entity_there spaces c.args.kind c.args.index (search rules),
      λ (ty, there). let below = entity_within spaces c.args.kind c.args.index ty there in search rules,
    )
