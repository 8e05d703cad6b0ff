use Rattle.smith_check_types.proofs.FirstGroupLemmas.{numbers_turn}
use Rattle.smith_check_types.proofs.first_groups.push_numbers.Goals as goal

pub loop-index-preserved : goal.loop-index-preserved
loop-index-preserved c = numbers_turn c.args.indices.now.items c.loop-index.indices.items _ c.args.start c.loop-index.index
    c.loop-index.auto.index c.in_ok-push.ensures.items c.loop-index.invariant
