use Rattle.smith_binary_sections.proofs.Common.{inr, joined_written}
use Rattle.smith_binary_sections.proofs.FaultLemmas.{fault_weaker, long_content}
use Rattle.smith_binary_sections.proofs.codes.BodiesEncodeItemCode.encode_item.Goals as goal

pub returns-clause-fault : goal.returns-clause-fault
returns-clause-fault c =
    let content = joined_written (rw c.as_slice.ensures at c.in_ok-write_locals.ensures.writes) c.in_ok-write_instructions.ensures.writes in
    fault_weaker c.write_sized.result (λ long. inr (long_content c.args.sink.now.least c.fresh-content.ensures content long))
    (rw c.as_slice-2.ensures at c.write_sized.ensures.fault)
