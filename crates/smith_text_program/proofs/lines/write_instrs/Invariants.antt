use Rattle.std.proofs.Common.{◌≡◌, ◌-◌, ◌≤◌, drop, false}
use Rattle.smith_text.specs.Written.{Writes}
use Rattle.smith_text_program.specs.Lines.{lines_size}
use Rattle.smith_text_program.proofs.lines.write_instrs.Given as goal

abbrev pub invariant-loop-instruction : goal.invariant-loop-instruction
invariant-loop-instruction g l = record {
  unfailed : g.S.Sink.failed l.sink ≡ false;
  left : lines_size (drop l.instruction-index l.instructions) 0 l.level ≤ lines_size l.instructions 0 l.fn.depth;
  writes : Writes g.S.Sink.has l.fn.sink (lines_size l.instructions 0 l.fn.depth - lines_size (drop l.instruction-index l.instructions) 0
      l.level) l.sink;
}
