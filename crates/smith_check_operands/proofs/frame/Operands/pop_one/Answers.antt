use Rattle.smith_check_operands.proofs.Common.{arith, false≢true, sym, ◌∙◌}
use Rattle.smith_check_operands.specs.Scopes.{bare}
use Rattle.smith_check_operands.proofs.PopLemmas.{popped_absent, popped_one, refused_one, top_in_range}
use Rattle.smith_check_operands.proofs.frame.Operands.pop_one.Goals as goal

pub fits-requires-clause-lower : goal.fits-requires-clause-lower
fits-requires-clause-lower c =
    top_in_range (bare c.args.scope.now) c.args.self.now.known.items c.deref.result.now c.in-Some.top.now c.requires.known
    c.deref.ensures.value c.in-Some.ensures.value

pub returns-in_default : goal.returns-in_default
returns-in_default c =
    popped_absent (bare c.args.scope.now) c.args.self.now.known.items c.deref.result.now c.args.expected.now c.args.self.now.dead
    c.deref.ensures.value c.in_default.ensures.value

pub returns-then-not-fits : goal.returns-then-not-fits
returns-then-not-fits c =
    refused_one (bare c.args.scope.now) c.args.self.now.known.items c.deref.result.now c.in-Some.top.now c.args.expected.now
    c.args.self.now.dead c.deref.ensures.value c.in-Some.ensures.value
    (λ fit. false≢true (sym c.if-not-fits.true ∙ c.fits.ensures.1 fit))

pub returns : goal.returns
returns c =
    popped_one (bare c.args.scope.now) c.args.self.now.known.items c.deref.result.now c.pop.new.self.items c.in-Some.top.now
    c.args.expected.now _ c.args.self.now.dead c.requires.known c.deref.ensures.value c.in-Some.ensures.value
    (c.fits.ensures.0 c.if-not-fits.false) (omega (arith, c.args.self.now.known.ok)) c.pop.ensures.rest
