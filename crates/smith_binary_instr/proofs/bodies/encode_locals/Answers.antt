use Rattle.smith_binary_instr.proofs.Common.{on_ok_weaker}
use Rattle.smith_binary.proofs.WrittenLemmas.{written_plain}
use Rattle.smith_binary_sections.proofs.ListLemmas.{locals_spelled}
use Rattle.smith_binary_instr.proofs.bodies.encode_locals.Goals as goal

pub returns-clause-writes : goal.returns-clause-writes
returns-clause-writes c = on_ok_weaker c.encode.result (written_plain (locals_spelled c.args.locals.now)) c.encode.ensures.writes
