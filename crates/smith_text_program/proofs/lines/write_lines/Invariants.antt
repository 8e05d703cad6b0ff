use Rattle.std.proofs.Common.{◌≡◌, ◌-◌, ◌≤◌, length, drop, false}
use Rattle.smith_text.specs.Written.{Writes}
use Rattle.smith_text_program.specs.Lines.{lines_size}
use Rattle.smith_text_program.proofs.lines.write_lines.Given as goal

abbrev pub invariant-loop-instruction : goal.invariant-loop-instruction
invariant-loop-instruction g l = record {
  unfailed : g.S.Sink.failed l.sink ≡ false;
  left : lines_size (drop l.instruction-index l.instructions) (length l.counters) l.level ≤ lines_size l.instructions (length l.counters)
      l.fn.depth;
  writes : Writes g.S.Sink.has l.fn.sink (lines_size l.instructions (length l.counters) l.fn.depth - lines_size
      (drop l.instruction-index l.instructions) (length l.counters) l.level) l.sink;
}
