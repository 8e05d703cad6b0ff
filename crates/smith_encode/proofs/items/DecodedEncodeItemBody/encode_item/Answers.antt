use Rattle.smith_encode.proofs.Common.{joined_written, on_ok_weaker}
use Rattle.smith_binary.proofs.WrittenLemmas.{content_written}
use Rattle.smith_encode.proofs.ItemLemmas.{body_written}
use Rattle.smith_encode.proofs.items.DecodedEncodeItemBody.encode_item.Goals as goal

pub returns-clause-writes : goal.returns-clause-writes
returns-clause-writes c =
    on_ok_weaker c.write_sized.result
    (λ sized. body_written c.args.item.now (content_written c.fresh-content.ensures
    (joined_written (rw c.as_slice.ensures at c.in_ok-encode.ensures.writes)
    (rw c.as_slice-2.ensures at c.in_ok-encode_expr.ensures.writes))
    sized)) (rw c.as_slice-3.ensures at c.write_sized.ensures.writes)
