use Rattle.smith_encode.proofs.Common.{on_ok_weaker, written_plain}
use Rattle.smith_encode.proofs.elements.write_functions.Goals as goal

pub returns-clause-writes : goal.returns-clause-writes
returns-clause-writes c = on_ok_weaker c.encode.result (written_plain (λ piece h. h)) c.encode.ensures.writes
