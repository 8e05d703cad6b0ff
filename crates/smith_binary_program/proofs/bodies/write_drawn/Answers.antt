use Rattle.smith_binary_program.proofs.Common.{inr, joined_written, on_ok_weaker}
use Rattle.smith_binary.proofs.WrittenLemmas.{content_written}
use Rattle.smith_binary_sections.proofs.FaultLemmas.{fault_weaker, long_content}
use Rattle.smith_binary_program.proofs.bodies.write_drawn.Goals as goal

pub returns-clause-writes : goal.returns-clause-writes
returns-clause-writes c =
    on_ok_weaker c.write_sized.result
    (content_written c.fresh-content.ensures (joined_written c.in_ok-encode_locals.ensures.written c.in_ok-write_expression.ensures.writes))
    (rw c.as_slice.ensures at c.write_sized.ensures.writes)

pub returns-clause-fault : goal.returns-clause-fault
returns-clause-fault c =
    let content = joined_written c.in_ok-encode_locals.ensures.written c.in_ok-write_expression.ensures.writes in
    fault_weaker c.write_sized.result (λ long. inr (inr (long_content c.args.sink.now.least c.fresh-content.ensures content long)))
    (rw c.as_slice.ensures at c.write_sized.ensures.fault)
