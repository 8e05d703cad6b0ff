use Rattle.std.proofs.Common.{refl, subst}
use Rattle.smith_check_operands.specs.Scopes.{bare}
use Rattle.smith_explain.specs.Causes.{IsCauseAt}
use Rattle.smith_explain.proofs.ItemLemmas.{got_item}
use Rattle.smith_explain.proofs.body.explain.Goals as goal

pub returns-clause-ok : goal.returns-clause-ok
returns-clause-ok c = record {
  checker = c.in-Some.checker;
  reached = rw c.in-Some.is at c.in_ok-checker.ensures.ok;
  stack = refl;
  cause = subst (λ one. IsCauseAt (bare c.args.scope.now) c.in-Some.checker one c.in_ok-cause.cause)
      (got_item c.args.body.now c.args.at c.get.result c.get.ensures.lookup) c.in_ok-cause.ensures.ok;
}
