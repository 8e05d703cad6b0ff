use Rattle.smith_config_examples.proofs.Common.{◌≤◌, arith}
use Rattle.smith_config_examples.proofs.ChainExamples.{chain_deep, chain_shallow}
use Rattle.smith_config_examples.proofs.shapes.depths.Goals as goal

pub returns : goal.returns
returns c = record {
  of_63_types = chain_shallow 63 (omega arith);
  of_64_types = λ shallow. let most : 64 ≤ 63 = shallow.each 63 64
      (chain_deep 64 63 (omega arith)) in omega (arith, most);
}
