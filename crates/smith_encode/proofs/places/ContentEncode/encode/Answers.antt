use Rattle.smith_encode.proofs.Common.{joined_written, on_ok_weaker}
use Rattle.smith_encode.proofs.places.ContentEncode.encode.Goals as goal

pub returns-clause-writes : goal.returns-clause-writes
returns-clause-writes c =
    on_ok_weaker c.write_bytes.result (joined_written (rw c.as_str.ensures at c.in_ok-write_name.ensures.writes))
    (rw c.as_slice.ensures at c.write_bytes.ensures.writes)
