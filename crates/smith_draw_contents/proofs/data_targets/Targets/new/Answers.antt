use Rattle.smith_draw_contents.proofs.Common.{seen_by, true}
use Rattle.smith_draw_contents.proofs.DataSegmentLemmas.{both_tell, both_none}
use Rattle.smith_draw_contents.proofs.DataTargetsLoop.{indexed_stand}
use Rattle.smith_draw_contents.proofs.data_targets.Targets.new.Goals as goal

pub returns-clause-targets : goal.returns-clause-targets
returns-clause-targets c =
    let context = seen_by c.args.config.now c.args.spaces.now true in
    record {
      stand = indexed_stand c.args.spaces.now.entities.memories.now c.args.offered.offered c.requires.within;
      globals = λ wide. both_tell context wide _ _ c.new.ensures.tell c.new-2.ensures.tell;
      none = λ on wide. both_none wide _ _ (c.new.ensures.none on) (c.new-2.ensures.none on);
      bulk = λ on. on;
    }
