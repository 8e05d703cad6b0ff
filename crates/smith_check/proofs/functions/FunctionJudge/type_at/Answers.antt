use Rattle.smith_check.proofs.Common.{arith}
use Rattle.smith_check.proofs.JudgeLemmas.{found_type}
use Rattle.smith_check.proofs.functions.FunctionJudge.type_at.Goals as goal

pub returns : goal.returns
returns c =
    found_type c.args.self.now c.args.place c.as_slice-functions.result.now c.as_slice.result.now c.types.result.now
    c.canonical_index-index.result c.requires c.as_slice-functions.ensures c.as_slice.ensures c.types.ensures.value (omega arith)
    c.canonical_index-index.ensures c.func_at.result c.func_at.ensures
