use Rattle.smith_check_operands.proofs.Common.{arith}
use Rattle.smith_check_operands.specs.Scopes.{bare}
use Rattle.smith_check_operands.proofs.PushLemmas.{popped_some, popped_bottom, popped_nothing}
use Rattle.smith_check_operands.proofs.frame.Operands.pop.Goals as goal

pub returns-in-Some : goal.returns-in-Some
returns-in-Some c =
    popped_some (bare c.args.scope.now) c.args.self.now.known.items c.pop.new.self.items c.in-Some.top c.args.self.now.dead c.requires
    c.in-Some.ensures.items

pub returns-then-self : goal.returns-then-self
returns-then-self c =
    popped_bottom (bare c.args.scope.now) c.args.self.now.known.items c.pop.new.self.items c.args.self.now.dead
    (omega (arith, c.in-None.ensures.cases.0, c.args.self.now.known.ok)) (omega (arith, c.in-None.ensures.cases.1, c.pop.new.self.ok))
    c.if-self.true

pub returns-else-self : goal.returns-else-self
returns-else-self c =
    popped_nothing (bare c.args.scope.now) c.args.self.now.known.items c.args.self.now.dead
    (omega (arith, c.in-None.ensures.cases.0, c.args.self.now.known.ok)) c.if-self.false
