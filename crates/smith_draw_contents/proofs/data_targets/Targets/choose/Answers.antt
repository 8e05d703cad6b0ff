use Rattle.smith_draw_contents.proofs.DataTargetsLoop.{memory_chosen}
use Rattle.smith_draw_contents.proofs.data_targets.Targets.choose.Goals as goal

pub returns : goal.returns
returns c =
    let now = c.self.inside in
    rw (← c.self.view_is) (record {
      exact = memory_chosen now.memories.now now.offered.offered c.args.u.now _ _ (rw (← c.self.view_is) at c.requires)
          c.choose-index.ensures.exact;
      left = c.choose-index.ensures.left;
    })
