use Rattle.smith_binary_read_instr.proofs.Common.{arith}
use Rattle.smith_binary_read_instr.proofs.NestingLoopLemmas.{closed}
use Rattle.smith_binary_read_instr.proofs.expressions.close.Goals as goal

pub returns : goal.returns
returns c = closed _ _ c.pop.result _ _ c.pop.ensures.items c.pop.ensures.cases (λ none. omega (arith, c.args.blocks.now.ok.0, none.0))
