use Rattle.smith_encode.proofs.Common.{on_ok_weaker}
use Rattle.smith_encode.proofs.ItemLemmas.{global_written}
use Rattle.smith_encode.proofs.items.DecodedEncodeItemGlobalDefinition.encode_item.Goals as goal

pub returns-clause-writes : goal.returns-clause-writes
returns-clause-writes c =
    on_ok_weaker c.encode_item.result (global_written c.args.item.now c.in_ok-encode.ensures.writes) c.encode_item.ensures.writes
