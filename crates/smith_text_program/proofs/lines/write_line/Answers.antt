use Rattle.std.proofs.Common.{◌+◌, ◌*◌, min, arith}
use Rattle.smith_text_program.specs.Lines.{line_size}
use Rattle.smith_text_program.proofs.LineLemmas.{written_in_turn}
use Rattle.smith_text_program.proofs.lines.write_line.Goals as goal

pub returns-clause-writes : goal.returns-clause-writes
returns-clause-writes g c =
    written_in_turn g.S.Sink.has c.args.sink.now c.write_instr.new.sink c.write_str.new.self (2 * min c.depth_at-level.result 64 + 1) 1
    (line_size c.args.instruction.now c.args.depth) (omega (arith, c.depth_at-level.ensures))
    (written_in_turn g.S.Sink.has c.args.sink.now c.write_indent.new.sink c.write_instr.new.sink (2 * min c.depth_at-level.result 64) 1
    (2 * min c.depth_at-level.result 64 + 1) (omega arith) c.in_ok-write_indent.ensures.writes c.in_ok-write_instr.ensures.writes)
    c.in_ok-write_str.ensures.writes
