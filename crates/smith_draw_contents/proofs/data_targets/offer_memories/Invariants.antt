use Rattle.smith_draw_contents.proofs.DataTargetsLoop.{IsCounting}
use Rattle.smith_draw_contents.proofs.data_targets.offer_memories.Given as goal

abbrev pub invariant-loop-memory : goal.invariant-loop-memory
invariant-loop-memory l = IsCounting l.memories l.memory-index l.offered l.fn.u l.u
