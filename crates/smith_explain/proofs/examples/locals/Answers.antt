use Rattle.std.proofs.Common.{refl, inl, arith, lit≤}
use Rattle.smith_explain.specs.Names.{item}
use Rattle.smith_explain.specs.declared.explanation.Space.TheVariants as space
use Rattle.smith_explain.proofs.examples.locals.Goals as goal

pub returns : goal.returns
returns c = record {
  missing = λ checker. (inl (inl refl), record { count = refl; past = lit≤ tt });
  not_unset = λ checker right. omega (arith, right.0 (item space.Local 3) (inl (inl refl)));
  not_something_else = λ checker right. omega (arith, right.0.there (item space.Local 3) (inl (inl refl)));
  there = λ checker right. omega (arith, right.1.past);
}
