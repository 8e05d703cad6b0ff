use Rattle.smith_check_body.proofs.Common.{ap, AreValid, arith, bare, EndsHere, false, held, holding, refl, subst, sym, values, ◌∙◌}
use Rattle.smith_check_body.proofs.CheckLemmas.{else_goes, else_stops_ends, else_stops_first, else_stops_empty}
use Rattle.smith_check_body.proofs.checker.Checker.second.Goals as goal

pub ends-requires-clause-valid : goal.ends-requires-clause-valid
ends-requires-clause-valid c = subst (λ rs. AreValid (bare c.args.scope.now) rs) (sym c.deref.ensures) c.requires.well.shape.results

pub starting-requires : goal.starting-requires
starting-requires c = subst (λ rs. AreValid (bare c.args.scope.now) rs) (sym c.deref-2.ensures) c.requires.well.shape.params

pub returns-then-not-ends-clause-ok : goal.returns-then-not-ends-clause-ok
returns-then-not-ends-clause-ok c =
    else_stops_ends (bare c.args.scope.now) c.args.self.now
    (λ e. c.if-not-ends.ensures (subst (λ rs. EndsHere (bare c.args.scope.now) rs (held c.args.self.now.operands)) (sym c.deref.ensures) e))

pub returns-then-not-is_first-clause-ok : goal.returns-then-not-is_first-clause-ok
returns-then-not-is_first-clause-ok c = else_stops_first (bare c.args.scope.now) c.args.self.now c.if-not-is_first.ensures

pub returns-clause-ok : goal.returns-clause-ok
returns-clause-ok c =
    else_goes (bare c.args.scope.now) c.args.self.now _ (omega arith) c.requires.well c.if-not-is_first.ensures
    (subst (λ rs. EndsHere (bare c.args.scope.now) rs (held c.args.self.now.operands)) c.deref.ensures c.if-not-ends.ensures)
    (record {
      shape = refl;
      operands = c.in_ok-self.ensures.ok ∙ ap (λ ps. holding (values ps) false) c.deref-2.ensures;
      log = c.truncate.ensures;
      height = refl;
      outers = refl;
    })

pub returns-then-len-eq0-clause-ok : goal.returns-then-len-eq0-clause-ok
returns-then-len-eq0-clause-ok c = else_stops_empty (bare c.args.scope.now) c.args.self.now (omega (arith, c.args.self.now.outers.ok))
