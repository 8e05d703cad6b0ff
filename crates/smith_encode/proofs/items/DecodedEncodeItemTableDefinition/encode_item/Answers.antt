use Rattle.smith_encode.proofs.Common.{on_ok_weaker}
use Rattle.smith_encode.proofs.ItemLemmas.{null_written, table_written}
use Rattle.smith_encode.proofs.items.DecodedEncodeItemTableDefinition.encode_item.Goals as goal

pub returns-then-is_null-clause-writes : goal.returns-then-is_null-clause-writes
returns-then-is_null-clause-writes c =
    on_ok_weaker c.encode.result (null_written c.args.item.now (c.is_null.ensures.0 c.if-is_null.true)) c.encode.ensures.writes

pub returns-clause-writes : goal.returns-clause-writes
returns-clause-writes c =
    on_ok_weaker c.encode_item.result
    (table_written c.args.item.now c.in_ok-write_bytes.ensures.writes c.in_ok-encode.ensures.writes) c.encode_item.ensures.writes
