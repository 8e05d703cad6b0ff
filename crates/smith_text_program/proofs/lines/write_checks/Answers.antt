use Rattle.std.proofs.Common.{rules, ◌-◌, length, arith}
use Rattle.smith_text_program.specs.Lines.{checks_size}
use Rattle.smith_text_program.proofs.LineLemmas.{written_in_turn}
use Rattle.smith_text_program.proofs.lines.write_checks.Goals as goal

pub loop-counter-preserved : goal.loop-counter-preserved
loop-counter-preserved g c = record {
  unfailed = search rules;
  fewer = omega (arith, c.in-Some.ensures.cases.1);
  writes = written_in_turn g.S.Sink.has c.args.sink.now c.loop-counter.sink c.write_check.new.sink
      (checks_size (length c.args.counters.now - length c.loop-counter.left.now)) (checks_size 1)
      (checks_size (length c.args.counters.now - length c.in-Some.before.now)) (omega (arith, c.in-Some.ensures.cases.1))
      c.loop-counter.invariant.writes c.in_ok-write_check.ensures.writes;
}
