use Rattle.smith_check_operands.proofs.Common.{ap, arith, take, values, ◌++◌, ◌∙◌, ◌≡◌}
use Rattle.std.proofs.lemmas.List.{take_all}
use Rattle.smith_check_operands.specs.Scopes.{bare}
use Rattle.smith_check_operands.proofs.PushLemmas.{pushed}
use Rattle.smith_check_operands.proofs.frame.Operands.push_all.Goals as goal

pub returns-clause-ok : goal.returns-clause-ok
returns-clause-ok c =
    let whole : take c.loop-value.value-index c.args.results.now ≡ c.args.results.now = take_all c.loop-value.value-index c.args.results.now
    (omega arith) in
    pushed (bare c.args.scope.now) c.args.self.now.known.items c.loop-value.self.known.items c.args.results.now c.args.self.now.dead
    c.loop-value.self.dead c.requires.known c.requires.valid
    (c.loop-value.invariant.0 ∙ ap (λ xs. c.args.self.now.known.items ++ values xs) whole) c.loop-value.invariant.1
