use Rattle.smith_types.proofs.ImportedSpaceLemmas.{groups_turn}
use Rattle.smith_types.proofs.entity_spaces.push_groups.Goals as goal

pub loop-group-preserved : goal.loop-group-preserved
loop-group-preserved c = groups_turn _ _ _ _ _ _ _ c.loop-group-test.true c.group-item.is c.in_ok-push_group.ensures.ok
    c.loop-group.invariant
