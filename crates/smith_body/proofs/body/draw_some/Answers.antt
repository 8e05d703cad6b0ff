use Rattle.smith_body.proofs.Common.{bare, refl}
use Rattle.smith_body.proofs.ExactLemmas.{body_exact}
use Rattle.smith_body.proofs.DrawnLemmas.{body_needed, body_allowed, body_short}
use Rattle.smith_body_nodes.proofs.AllowedLemmas.{all_enabled, all_trapless}
use Rattle.smith_body.proofs.body.draw_some.Goals as goal

pub returns-clause-typed : goal.returns-clause-typed
returns-clause-typed c =
    (body_needed c.in_ok-draw_results.ensures.drawn c.new.ensures c.new-2.ensures
    (rw (c.in_ok-push.ensures.items, c.new-labels.ensures.items, c.in_ok-from_slice.ensures.ok) refl)).typed

pub returns-clause-needed : goal.returns-clause-needed
returns-clause-needed c =
    body_needed c.in_ok-draw_results.ensures.drawn c.new.ensures c.new-2.ensures
    (rw (c.in_ok-push.ensures.items, c.new-labels.ensures.items, c.in_ok-from_slice.ensures.ok) refl)

pub returns-clause-allowed : goal.returns-clause-allowed
returns-clause-allowed c = all_enabled c.args.scope.now _ (body_allowed c.in_ok-draw_results.ensures.drawn c.new.ensures)

pub returns-clause-trapless : goal.returns-clause-trapless
returns-clause-trapless c = λ disallowed. all_trapless c.args.scope.now _ (body_allowed c.in_ok-draw_results.ensures.drawn c.new.ensures)
    disallowed

pub returns-clause-short : goal.returns-clause-short
returns-clause-short c = body_short c.in_ok-draw_results.ensures.drawn c.new.ensures

pub returns-clause-exact : goal.returns-clause-exact
returns-clause-exact c = record {
  exact = body_exact c.args.scope.now.config.now (bare c.args.scope.now) c.args.budget c.args.u.now _ _ c.requires.some
      c.in_ok-draw_results.ensures.exact
      (rw (c.new.ensures, c.new-2.ensures, c.in_ok-push.ensures.items, c.new-labels.ensures.items, c.in_ok-from_slice.ensures.ok) refl);
  memory = tt;
  left = c.draw_results.ensures.left;
}
