use Rattle.smith_binary_sections.proofs.Common.{IsUnsignedIn, on_ok_weaker}
use Rattle.smith_binary.proofs.WrittenLemmas.{none_written, one_written}
use Rattle.smith_binary_sections.proofs.types.write_supertype.Goals as goal

pub returns-in-None-clause-writes : goal.returns-in-None-clause-writes
returns-in-None-clause-writes c =
    rw c.in-None.is (on_ok_weaker c.write_length.result (none_written (λ s. IsUnsignedIn s 32)) c.write_length.ensures.writes)

pub returns-in_ok-write_length-in-Some-clause-writes : goal.returns-in_ok-write_length-in-Some-clause-writes
returns-in_ok-write_length-in-Some-clause-writes c =
    rw c.in-Some.is (on_ok_weaker c.write_u32.result
    (one_written (λ s. IsUnsignedIn s 32) c.in-Some.index c.in_ok-write_length-in-Some.ensures.writes) c.write_u32.ensures.writes)
