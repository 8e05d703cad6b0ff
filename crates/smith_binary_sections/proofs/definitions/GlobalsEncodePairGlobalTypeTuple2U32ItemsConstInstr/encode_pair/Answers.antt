use Rattle.smith_binary_sections.proofs.Common.{joined_written, on_ok_weaker}
use Rattle.smith_binary_sections.proofs.definitions.GlobalsEncodePairGlobalTypeTuple2U32ItemsConstInstr.encode_pair.Goals as goal

pub returns-clause-writes : goal.returns-clause-writes
returns-clause-writes c = on_ok_weaker c.encode-2.result (joined_written c.in_ok-encode.ensures.writes) c.encode-2.ensures.writes
