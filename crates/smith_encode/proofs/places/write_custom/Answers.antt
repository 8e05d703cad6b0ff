use Rattle.smith_encode.proofs.Common.{fault_weaker, on_ok_weaker, written_plain}
use Rattle.smith_encode.proofs.places.write_custom.Goals as goal

pub returns-clause-writes : goal.returns-clause-writes
returns-clause-writes c = on_ok_weaker c.write_section_if.result (written_plain (λ piece h. h)) c.write_section_if.ensures.writes

pub returns-clause-fault : goal.returns-clause-fault
returns-clause-fault c = fault_weaker c.write_section_if.result (λ long. long.1) c.write_section_if.ensures.fault
