use Rattle.smith_binary_sections.proofs.Common.{joined_written, on_ok_weaker}
use Rattle.smith_binary_sections.proofs.instructions.ConstInstrEncode.encode.Goals as goal

pub returns-in_ok-write_u32-in-ArrayNewFixed-clause-writes : goal.returns-in_ok-write_u32-in-ArrayNewFixed-clause-writes
returns-in_ok-write_u32-in-ArrayNewFixed-clause-writes c =
    rw c.in-ArrayNewFixed.is
    (on_ok_weaker c.write_u32-in-ArrayNewFixed.result
    (λ last. joined_written c.in_ok-write_prefixed-in-ArrayNewFixed.ensures.writes
    (joined_written c.in_ok-write_u32-in-ArrayNewFixed.ensures.writes last))
    c.write_u32-in-ArrayNewFixed.ensures.writes)
