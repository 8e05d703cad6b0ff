use Rattle.std.proofs.Common.{◌+◌, length, arith}
use Rattle.std.proofs.lemmas.Result.{on_ok_weaker}
use Rattle.smith_text_program.specs.Lines.{checks_size, lines_size}
use Rattle.smith_text_program.proofs.LineLemmas.{written_in_turn}
use Rattle.smith_text_program.proofs.lines.write_counted_instrs.Goals as goal

pub returns-clause-writes : goal.returns-clause-writes
returns-clause-writes g c = on_ok_weaker c.write_lines.result (λ writes before after held low high. written_in_turn g.S.Sink.has
    c.args.sink.now c.write_checks.new.sink c.write_lines.new.sink (checks_size (length c.args.counters.now))
    (lines_size c.args.instructions.now (length c.args.counters.now) c.args.depth)
    (checks_size (length c.args.counters.now) + lines_size c.args.instructions.now (length c.args.counters.now) c.args.depth) (omega arith)
    c.in_ok-write_checks.ensures.writes writes before after held low high) c.write_lines.ensures.writes
