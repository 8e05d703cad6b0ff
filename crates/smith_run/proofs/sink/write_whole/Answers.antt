use Rattle.std.proofs.Common.{rules}
use Rattle.smith_run.proofs.AppendLemmas.{append_piece}
use Rattle.smith_run.proofs.sink.write_whole.Goals as goal

pub loop-rest-preserved : goal.loop-rest-preserved
loop-rest-preserved g c = record {
  bytes = append_piece _ _ _ _ _ _ c.loop-rest.invariant.bytes c.in_ok-count.ensures.bound c.in_ok-count.ensures.bytes;
  fault = search rules;
}
