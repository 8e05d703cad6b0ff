use Rattle.smith_check_body.proofs.Common.{bare, held, subst, values}
use Rattle.std.specs.Prelude.{MatchOption}
use Rattle.smith_check_operands.specs.Covers.{PopsNothing}
use Rattle.smith_check_body.specs.Opens.{taken_by}
use Rattle.smith_check_body.specs.Checks.{HasNoType, IsShapeOf}
use Rattle.smith_check_body.proofs.CheckLemmas.{open_stops_untyped, open_stops, open_entered}
use Rattle.smith_check_body.proofs.checker.Checker.open.Goals as goal

pub returns-in-None-clause-ok : goal.returns-in-None-clause-ok
returns-in-None-clause-ok c =
    open_stops_untyped (bare c.args.scope.now) c.args.kind c.args.ty.now c.args.self.now
    (subst (λ o. MatchOption o (HasNoType (bare c.args.scope.now) c.args.ty.now)
    (λ shape. IsShapeOf (bare c.args.scope.now) c.args.kind c.args.ty.now shape)) c.in-None.is c.in_ok-found.ensures.ok)

pub returns-then-not-pop_for-clause-ok : goal.returns-then-not-pop_for-clause-ok
returns-then-not-pop_for-clause-ok c =
    open_stops (bare c.args.scope.now) c.args.kind c.args.ty.now c.in-Some.shape c.args.self.now
    (subst (λ o. MatchOption o (HasNoType (bare c.args.scope.now) c.args.ty.now)
    (λ shape. IsShapeOf (bare c.args.scope.now) c.args.kind c.args.ty.now shape)) c.in-Some.is c.in_ok-found.ensures.ok)
    (subst (λ ps. PopsNothing (bare c.args.scope.now) (values (taken_by c.args.kind ps)) (held c.args.self.now.operands)) c.deref.ensures
    c.if-not-pop_for.ensures)

pub returns-clause-ok : goal.returns-clause-ok
returns-clause-ok c =
    open_entered (bare c.args.scope.now) c.args.kind c.args.ty.now c.in-Some.shape c.args.self.now c.enter.new.self c.pop_for.new.operands
    c.in_ok-operands.operands c.deref.result.now c.deref-2.result.now
    c.requires.well
    (subst (λ o. MatchOption o (HasNoType (bare c.args.scope.now) c.args.ty.now)
    (λ shape. IsShapeOf (bare c.args.scope.now) c.args.kind c.args.ty.now shape)) c.in-Some.is c.in_ok-found.ensures.ok)
    c.in_ok-enter.ensures.shape c.deref.ensures c.deref-2.ensures c.if-not-pop_for.ensures c.in_ok-enter.ensures.operands
    c.in_ok-operands.ensures.ok
    c.in_ok-enter.ensures.log c.in_ok-enter.ensures.height c.in_ok-enter.ensures.outers
