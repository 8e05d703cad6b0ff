use Rattle.std.proofs.Common.{List, sym, subst}
use Rattle.smith_check_rules.specs.ExampleBodies.{plain}
use Rattle.smith_check_rules.specs.declared.slot.Slot.{Slot}
use Rattle.smith_explain.specs.Causes.{IsTaking}
use Rattle.smith_explain.specs.ExampleCauses.{adds}
use Rattle.smith_explain.proofs.ExampleLemmas.{adds_not_one, adds_right, adds_two}
use Rattle.smith_explain.proofs.examples.operands.Goals as goal

pub returns : goal.returns
returns c = record {
  two = λ wanted is checker.
      (adds_right checker, subst (λ (types : List Slot). IsTaking plain checker adds types) (sym is) (adds_two checker));
  not_one = λ wanted is checker right.
      adds_not_one checker (subst (λ (types : List Slot). IsTaking plain checker adds types) is right.1);
}
