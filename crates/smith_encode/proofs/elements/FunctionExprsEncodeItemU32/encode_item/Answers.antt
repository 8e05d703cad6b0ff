use Rattle.smith_encode.proofs.Common.{on_ok_weaker}
use Rattle.smith_encode.proofs.ItemLemmas.{function_expr_written}
use Rattle.smith_encode.proofs.elements.FunctionExprsEncodeItemU32.encode_item.Goals as goal

pub returns-clause-writes : goal.returns-clause-writes
returns-clause-writes c = on_ok_weaker c.encode_expr.result (function_expr_written c.args.item.now) c.encode_expr.ensures.writes
