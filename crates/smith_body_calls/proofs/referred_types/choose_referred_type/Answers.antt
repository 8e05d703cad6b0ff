use Rattle.std.proofs.Common.{◌≡◌, arith, ◌∙◌}
use Rattle.smith_body_nodes.specs.Scopes.{bare}
use Rattle.smith_body_calls.proofs.CallLemmas.{referred_any, referred_named}
use Rattle.smith_body_calls.proofs.referred_types.choose_referred_type.Goals as goal

pub returns-then-number-lt15-clause-exact : goal.returns-then-number-lt15-clause-exact
returns-then-number-lt15-clause-exact c =
    let context = bare c.args.scope.now in
    let drawn = rw (c.new.ensures.start, c.new.ensures.end) at c.int_in_range-number.ensures.exact in
    referred_named context c.args.outcome c.args.u.now _ c.int_in_range-number.result drawn (omega (arith, c.if-number-lt15.true))
    ∙ c.choose_named_type.ensures.exact

pub returns-clause-exact : goal.returns-clause-exact
returns-clause-exact c =
    let is : c.int_in_range-number.result ≡ 15 =
    omega (arith, c.int_in_range-number.ensures.within, c.new.ensures.start, c.new.ensures.end, c.if-number-lt15.false) in
    let drawn = rw (c.new.ensures.start, c.new.ensures.end, is) at c.int_in_range-number.ensures.exact in
    referred_any (bare c.args.scope.now) c.args.outcome c.args.u.now _ drawn ∙ c.choose_fit_type.ensures.exact
