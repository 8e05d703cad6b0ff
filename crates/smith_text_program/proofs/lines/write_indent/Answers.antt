use Rattle.std.proofs.Common.{◌+◌, ◌*◌, arith, rules}
use Rattle.smith_text_program.proofs.LineLemmas.{written_in_turn}
use Rattle.smith_text_program.proofs.lines.write_indent.Goals as goal

pub loop-preserved : goal.loop-preserved
loop-preserved g c = record {
  unfailed = search rules;
  writes = written_in_turn g.S.Sink.has c.args.sink.now c.loop.sink c.write_str.new.self (2 * c.loop.counter) 2 (2 * (c.loop.counter + 1))
      (omega arith) c.loop.invariant.writes c.in_ok-write_str.ensures.writes;
}
