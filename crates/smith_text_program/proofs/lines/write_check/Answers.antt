use Rattle.std.proofs.Common.{lit≤}
use Rattle.std.proofs.lemmas.Result.{on_ok_weaker}
use Rattle.smith_text_program.proofs.LineLemmas.{nine_lines}
use Rattle.smith_text_program.proofs.lines.write_check.Goals as goal

pub returns-clause-writes : goal.returns-clause-writes
returns-clause-writes g c = on_ok_weaker c.write_instrs.result (λ writes before after held low high. nine_lines g.S.Sink.has c.args.sink.now
    c.write_instrs.new.sink _ c.args.depth (lit≤ tt) writes before after held low high) c.write_instrs.ensures.writes
