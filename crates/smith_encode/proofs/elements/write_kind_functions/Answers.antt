use Rattle.smith_encode.proofs.Common.{joined_written, on_ok_weaker}
use Rattle.smith_encode.proofs.elements.write_kind_functions.Goals as goal

pub returns-clause-writes : goal.returns-clause-writes
returns-clause-writes c =
    on_ok_weaker c.write_functions.result (joined_written c.in_ok-write_byte.ensures.writes) c.write_functions.ensures.writes
