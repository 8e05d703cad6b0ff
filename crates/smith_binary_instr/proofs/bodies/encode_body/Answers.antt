use Rattle.std.proofs.Common.{inr}
use Rattle.smith_binary_instr.proofs.Common.{joined_written, on_ok_weaker}
use Rattle.smith_binary.proofs.WrittenLemmas.{content_written, written_plain}
use Rattle.smith_binary_sections.proofs.FaultLemmas.{fault_weaker, long_content}
use Rattle.smith_binary_instr.proofs.FormLemmas.{func_body_is}
use Rattle.smith_binary_instr.proofs.bodies.encode_body.Goals as goal

pub returns-clause-written : goal.returns-clause-written
returns-clause-written c =
    on_ok_weaker c.write_sized.result
    (content_written c.fresh-content.ensures (joined_written c.in_ok-encode_locals.ensures.written c.in_ok-encode_expr.ensures.written))
    (rw c.as_slice.ensures at c.write_sized.ensures.writes)

pub returns-clause-writes : goal.returns-clause-writes
returns-clause-writes c =
    on_ok_weaker c.write_sized.result
    (λ sized. written_plain (func_body_is c.args.locals.now c.args.instructions.now)
    (content_written c.fresh-content.ensures (joined_written c.in_ok-encode_locals.ensures.written c.in_ok-encode_expr.ensures.written)
    sized))
    (rw c.as_slice.ensures at c.write_sized.ensures.writes)

pub returns-clause-fault : goal.returns-clause-fault
returns-clause-fault c =
    let content = joined_written c.in_ok-encode_locals.ensures.written c.in_ok-encode_expr.ensures.written in
    fault_weaker c.write_sized.result (λ long. inr (inr (long_content c.args.sink.now.least c.fresh-content.ensures content long)))
    (rw c.as_slice.ensures at c.write_sized.ensures.fault)
