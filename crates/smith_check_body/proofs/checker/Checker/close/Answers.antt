use Rattle.smith_check_body.proofs.Common.{AreValid, arith, bare, EndsHere, held, Pushes, refl, subst, sym, values}
use Rattle.smith_check_body.proofs.CheckLemmas.{close_goes, close_stops_ends, close_stops_may, close_stops_empty, outer_known}
use Rattle.smith_check_body.proofs.checker.Checker.close.Goals as goal

pub ends-requires-clause-valid : goal.ends-requires-clause-valid
ends-requires-clause-valid c = subst (λ rs. AreValid (bare c.args.scope.now) rs) (sym c.deref.ensures) c.requires.well.shape.results

pub push_all-requires-clause-known : goal.push_all-requires-clause-known
push_all-requires-clause-known c = outer_known (bare c.args.scope.now) c.args.self.now c.in-Some.outer c.pop.new.self.items c.requires.well
    c.in-Some.ensures.items

pub push_all-requires-clause-valid : goal.push_all-requires-clause-valid
push_all-requires-clause-valid c = subst (λ rs. AreValid (bare c.args.scope.now) rs) (sym c.deref-2.ensures) c.requires.well.shape.results

pub returns-then-not-ends-clause-ok : goal.returns-then-not-ends-clause-ok
returns-then-not-ends-clause-ok c =
    close_stops_ends (bare c.args.scope.now) c.args.self.now
    (λ e. c.if-not-ends.ensures (subst (λ rs. EndsHere (bare c.args.scope.now) rs (held c.args.self.now.operands)) (sym c.deref.ensures) e))

pub returns-then-not-may_end-clause-ok : goal.returns-then-not-may_end-clause-ok
returns-then-not-may_end-clause-ok c = close_stops_may (bare c.args.scope.now) c.args.self.now c.if-not-may_end.ensures

pub returns-in-None-clause-ok : goal.returns-in-None-clause-ok
returns-in-None-clause-ok c = close_stops_empty (bare c.args.scope.now) c.args.self.now
    (omega (arith, c.in-None.ensures.cases.0, c.args.self.now.outers.ok))

pub returns-clause-ok : goal.returns-clause-ok
returns-clause-ok c =
    close_goes (bare c.args.scope.now) c.args.self.now _ c.in-Some.outer c.pop.new.self.items c.requires.well
    (subst (λ rs. EndsHere (bare c.args.scope.now) rs (held c.args.self.now.operands)) c.deref.ensures c.if-not-ends.ensures)
    c.if-not-may_end.ensures
    (subst (λ rs. Pushes (bare c.args.scope.now) (values rs) (held c.in-Some.outer.operands) (held c.push_all.new.self)) c.deref-2.ensures
    c.in_ok-push_all.ensures.ok)
    (record { outers = c.in-Some.ensures.items; shape = refl; log = c.truncate.ensures; height = refl; left = refl })
