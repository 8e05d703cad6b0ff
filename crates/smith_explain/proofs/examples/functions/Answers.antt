use Rattle.std.proofs.Common.{◌+◌, length, refl, inl, arith, lit<}
use Rattle.smith_explain.specs.Causes.{IsUndeclared}
use Rattle.smith_explain.specs.ExampleCauses.{one_function, refers}
use Rattle.smith_explain.specs.Names.{item}
use Rattle.smith_explain.specs.declared.explanation.Space.TheVariants as space
use Rattle.smith_explain.proofs.ExampleLemmas.{refers_there}
use Rattle.smith_explain.proofs.examples.functions.Goals as goal

undeclared : IsUndeclared one_function refers 0
undeclared = record { is = refl; undeclared = λ there. omega (arith, there.1) }

pub returns : goal.returns
returns c = record {
  undeclared = λ checker. (refers_there one_function (length checker.outers.items + 1) (lit< tt), undeclared);
  not_something_else = λ checker right. right.0.declared 0 undeclared;
  declared = λ checker right. right.1.undeclared (0, lit< tt, refl);
  missing = λ checker right. omega (arith, right.0 (item space.Function 0) (inl (inl refl)));
}
