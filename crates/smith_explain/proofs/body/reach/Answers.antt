use Rattle.std.proofs.Common.{◌≡◌, ◌+◌, ◌<◌, ◌∙◌, ap, subst, take, length, arith, [], MatchBool}
use Rattle.smith_check_operands.specs.declared.frame.Kind.TheVariants as kind
use Rattle.smith_check_operands.specs.Scopes.{bare}
use Rattle.smith_check_body.specs.Checks.{Goes, IsReached, Stops}
use Rattle.smith_check_body.proofs.BodyLemmas.{one_more, begun, reached_more, refused_at}
use Rattle.smith_explain.proofs.body.reach.Goals as goal

pub check-requires-clause-well : goal.check-requires-clause-well
check-requires-clause-well c = c.loop-i.invariant.well

pub loop-i-init : goal.loop-i-init
loop-i-init c =
    begun (bare c.args.scope.now) c.begin-checker.result c.requires.scope.results (record {
      shape = c.begin-checker.ensures.shape ∙ ap (λ rs. record { kind = kind.Block; params = []; results = rs }) c.requires.results;
      operands = c.begin-checker.ensures.operands;
      log = c.begin-checker.ensures.log;
      height = c.begin-checker.ensures.height;
      outers = c.begin-checker.ensures.outers;
    })

pub loop-i-preserved : goal.loop-i-preserved
loop-i-preserved c =
    let x = c.index-body-i.result in
    let inside = c.requires.inside in
    let within : c.loop-i.i < length c.args.body.now = omega (arith, inside) in
    reached_more (bare c.args.scope.now) c.loop-i.checker c.check.new.self (take c.loop-i.i c.args.body.now)
    (take (c.loop-i.i + 1) c.args.body.now) x
    (one_more c.args.body.now c.loop-i.i x within c.index-body-i.is) c.loop-i.invariant
    (subst (λ b. MatchBool b (Goes (bare c.args.scope.now) x c.loop-i.checker c.check.new.self)
    (Stops (bare c.args.scope.now) x c.loop-i.checker)) c.if-not-goes.false c.in_ok-goes.ensures.ok)

pub returns-then-not-goes-clause-ok : goal.returns-then-not-goes-clause-ok
returns-then-not-goes-clause-ok c =
    let x = c.index-body-i.result in
    let inside = c.requires.inside in
    let before : c.loop-i.i < c.args.at = omega arith in
    let within : c.loop-i.i < length c.args.body.now = omega (arith, inside) in (
      c.loop-i.i,
      before,
      refused_at (bare c.args.scope.now) c.loop-i.checker c.args.body.now c.loop-i.i x within
          (one_more c.args.body.now c.loop-i.i x within c.index-body-i.is) c.loop-i.invariant
          (subst (λ b. MatchBool b (Goes (bare c.args.scope.now) x c.loop-i.checker c.check.new.self)
          (Stops (bare c.args.scope.now) x c.loop-i.checker)) c.if-not-goes.true c.in_ok-goes.ensures.ok),
    )

pub returns-clause-ok : goal.returns-clause-ok
returns-clause-ok c =
    let inside = c.requires.inside in
    let whole : c.loop-i.i ≡ c.args.at = omega (arith, inside) in
    subst (λ n. IsReached (bare c.args.scope.now) c.loop-i.checker (take n c.args.body.now)) whole c.loop-i.invariant
