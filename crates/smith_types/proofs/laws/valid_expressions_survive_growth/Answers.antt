use Rattle.smith_types.proofs.ExpressionGrowthLemmas.{HasType-grown, IsStackStep-grown, AreStackSteps-grown, IsConstExpr-grown}
use Rattle.smith_types.proofs.laws.valid_expressions_survive_growth.Goals as goal

pub returns : goal.returns
returns c = record {
  typed = λ old new instruction operands result growth h. HasType-grown old new growth instruction operands result h;
  step = λ old new instruction before after growth h. IsStackStep-grown old new growth instruction before after h;
  steps = λ old new instructions before after growth h. AreStackSteps-grown old new growth instructions before after h;
  expression = λ old new wanted instructions growth h. IsConstExpr-grown old new growth wanted instructions h;
}
