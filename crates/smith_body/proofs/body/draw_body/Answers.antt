use Rattle.smith_body.proofs.Common.{[], arith, bare, ◌∷◌}
use Rattle.smith_body.proofs.ExactLemmas.{body_stops}
use Rattle.smith_instr.specs.declared.instr.Instr.TheVariants as instr
use Rattle.smith_body.proofs.DrawnLemmas.{one_allowed}
use Rattle.smith_body_nodes.proofs.AllowedLemmas.{all_enabled, all_trapless}
use Rattle.smith_body_leaves.proofs.LeafLemmas.{stop_allowed}
use Rattle.smith_body.proofs.BodyLemmas.{stop_typed}
use Rattle.smith_body.proofs.body.draw_body.Goals as goal

pub returns-then-budget-eq0-clause-typed : goal.returns-then-budget-eq0-clause-typed
returns-then-budget-eq0-clause-typed c = rw (c.in_ok-push.ensures.ok, c.new-body.ensures)
    (stop_typed (bare c.args.scope.now) c.requires.scope.results)

pub returns-then-budget-eq0-clause-exact : goal.returns-then-budget-eq0-clause-exact
returns-then-budget-eq0-clause-exact c = record {
  exact = rw (c.in_ok-push.ensures.ok, c.new-body.ensures) (body_stops c.args.scope.now.config.now (bare c.args.scope.now) c.args.budget
      c.args.u.now (omega arith));
  memory = tt;
  left = λ whole h. h;
}

pub returns-then-budget-eq0-clause-allowed : goal.returns-then-budget-eq0-clause-allowed
returns-then-budget-eq0-clause-allowed c =
    rw (c.in_ok-push.ensures.ok, c.new-body.ensures) (all_enabled c.args.scope.now (instr.Unreachable ∷ [])
    (one_allowed c.args.scope.now instr.Unreachable (stop_allowed c.args.scope.now)))

pub returns-then-budget-eq0-clause-trapless : goal.returns-then-budget-eq0-clause-trapless
returns-then-budget-eq0-clause-trapless c = λ disallowed.
    rw (c.in_ok-push.ensures.ok, c.new-body.ensures) (all_trapless c.args.scope.now (instr.Unreachable ∷ [])
    (one_allowed c.args.scope.now instr.Unreachable (stop_allowed c.args.scope.now)) disallowed)
