use Rattle.smith_check_body.proofs.Common.{[], ap, arith, bare, length, MatchBool, subst, take, take_all, ◌+◌, ◌<◌, ◌∙◌}
use Rattle.smith_check_operands.specs.declared.frame.Kind.TheVariants as kind
use Rattle.smith_check_body.specs.Checks.{Goes, Stops}
use Rattle.smith_check_body.proofs.BodyLemmas.{one_more, begun, reached_more, refused_at, refused_end, accepted}
use Rattle.smith_check_body.proofs.check.check_body.Goals as goal

pub check-requires-clause-well : goal.check-requires-clause-well
check-requires-clause-well c = c.loop-i.invariant.well

pub loop-i-init : goal.loop-i-init
loop-i-init c =
    begun (bare c.args.scope.now) c.begin-checker.result c.requires.scope.results (record {
      shape = c.begin-checker.ensures.shape ∙ ap (λ rs. record { kind = kind.Block; params = []; results = rs }) c.requires.results;
      operands = c.begin-checker.ensures.operands;
      log = c.begin-checker.ensures.log;
      height = c.begin-checker.ensures.height;
      outers = c.begin-checker.ensures.outers;
    })

pub loop-i-preserved : goal.loop-i-preserved
loop-i-preserved c =
    let x = c.index-body-i.result in
    let within : c.loop-i.i < length c.args.body.now = omega arith in
    reached_more (bare c.args.scope.now) c.loop-i.checker c.check.new.self (take c.loop-i.i c.args.body.now)
    (take (c.loop-i.i + 1) c.args.body.now) x
    (one_more c.args.body.now c.loop-i.i x within c.index-body-i.is) c.loop-i.invariant
    (subst (λ b. MatchBool b (Goes (bare c.args.scope.now) x c.loop-i.checker c.check.new.self)
    (Stops (bare c.args.scope.now) x c.loop-i.checker)) c.if-not-goes.false c.in_ok-goes.ensures.ok)

pub returns-then-not-goes-clause-ok : goal.returns-then-not-goes-clause-ok
returns-then-not-goes-clause-ok c =
    let x = c.index-body-i.result in
    let within : c.loop-i.i < length c.args.body.now = omega arith in
    refused_at (bare c.args.scope.now) c.loop-i.checker c.args.body.now c.loop-i.i x within
    (one_more c.args.body.now c.loop-i.i x within c.index-body-i.is) c.loop-i.invariant
    (subst (λ b. MatchBool b (Goes (bare c.args.scope.now) x c.loop-i.checker c.check.new.self)
    (Stops (bare c.args.scope.now) x c.loop-i.checker)) c.if-not-goes.true c.in_ok-goes.ensures.ok)

pub returns-then-not-is_finished-clause-ok : goal.returns-then-not-is_finished-clause-ok
returns-then-not-is_finished-clause-ok c =
    refused_end (bare c.args.scope.now) c.loop-i.checker c.args.body.now (take c.loop-i.i c.args.body.now)
    (take_all c.loop-i.i c.args.body.now (omega arith)) c.loop-i.invariant
    c.if-not-is_finished.ensures

pub returns-clause-ok : goal.returns-clause-ok
returns-clause-ok c =
    accepted (bare c.args.scope.now) c.loop-i.checker c.args.body.now (take c.loop-i.i c.args.body.now)
    (take_all c.loop-i.i c.args.body.now (omega arith)) c.loop-i.invariant
    c.if-not-is_finished.ensures
