use Rattle.std.proofs.Common.{arith, inr}
use Rattle.smith_explain.proofs.ExampleLemmas.{ends_right}
use Rattle.smith_explain.proofs.examples.ends.Goals as goal

pub returns : goal.returns
returns c = record {
  something_else = λ checker none. (ends_right checker, inr (λ wanted taking. omega (arith, none, taking.0.0)));
  not_operands = λ checker none wanted right. omega (arith, none, right.1.0.0);
}
