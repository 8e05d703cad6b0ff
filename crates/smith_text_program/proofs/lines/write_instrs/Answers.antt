use Rattle.std.proofs.Common.{rules, ◌≡◌, ◌+◌, ◌-◌, drop, arith}
use Rattle.smith_text_program.specs.Lines.{checks_after, line_size, lines_size}
use Rattle.smith_text_program.proofs.LineLemmas.{lines_from, no_checks, no_lines, written_in_turn}
use Rattle.smith_text_program.proofs.lines.write_instrs.Goals as goal

pub loop-instruction-preserved : goal.loop-instruction-preserved
loop-instruction-preserved g c =
    let lines : lines_size (drop c.loop-instruction.instruction-index c.args.instructions.now) 0 c.loop-instruction.level
    ≡ line_size c.instruction-item.result c.loop-instruction.level + checks_after c.instruction-item.result 0 + lines_size
    (drop (c.loop-instruction.instruction-index + 1) c.args.instructions.now) 0 c.in_ok-level.level =
    lines_from c.args.instructions.now c.loop-instruction.instruction-index c.instruction-item.result 0 c.loop-instruction.level
    c.in_ok-level.level c.loop-instruction-test.true c.instruction-item.is c.in_ok-level.ensures.depth in
    let checks : checks_after c.instruction-item.result 0 ≡ 0 = no_checks c.instruction-item.result in
    record {
      unfailed = search rules;
      left = omega arith;
      writes = written_in_turn g.S.Sink.has c.args.sink.now c.loop-instruction.sink c.write_line.new.sink
          (lines_size c.args.instructions.now 0 c.args.depth - lines_size
          (drop c.loop-instruction.instruction-index c.args.instructions.now) 0 c.loop-instruction.level)
          (line_size c.instruction-item.result c.loop-instruction.level) (lines_size c.args.instructions.now 0 c.args.depth - lines_size
          (drop (c.loop-instruction.instruction-index + 1) c.args.instructions.now) 0 c.in_ok-level.level) (omega arith)
          c.loop-instruction.invariant.writes c.in_ok-level.ensures.writes;
    }

pub returns-clause-writes : goal.returns-clause-writes
returns-clause-writes g c before after held low high =
    let none : lines_size (drop c.loop-instruction.instruction-index c.args.instructions.now) 0 c.loop-instruction.level ≡ 0 =
    no_lines c.args.instructions.now c.loop-instruction.instruction-index 0 c.loop-instruction.level c.loop-instruction-test.false in
    c.loop-instruction.invariant.writes before after held low (omega arith)
