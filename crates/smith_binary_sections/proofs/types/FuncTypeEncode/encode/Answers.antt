use Rattle.smith_binary_sections.proofs.Common.{joined_written, on_ok_weaker}
use Rattle.smith_binary_sections.proofs.types.FuncTypeEncode.encode.Goals as goal

pub returns-clause-writes : goal.returns-clause-writes
returns-clause-writes c = on_ok_weaker c.write_list-2.result (joined_written (rw c.as_slice.ensures at c.in_ok-write_list.ensures.writes))
    (rw c.as_slice-2.ensures at c.write_list-2.ensures.writes)
