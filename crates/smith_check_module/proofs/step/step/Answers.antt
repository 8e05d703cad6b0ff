use Rattle.smith_check_module.proofs.Common.{MatchOption, subst}
use Rattle.smith_check_module.specs.ConstScopes.{context_of}
use Rattle.smith_check_module.specs.Typings.{IsBest, TakesNothing}
use Rattle.smith_check_module.proofs.StepLemmas.{no_step, stepped}
use Rattle.smith_check_module.proofs.step.step.Goals as goal

pub apply-requires-clause-operands : goal.apply-requires-clause-operands
apply-requires-clause-operands c =
    (subst (λ o. MatchOption o (TakesNothing (context_of c.args.scope.now) c.args.instruction c.as_slice.result.now)
    (λ s. IsBest (context_of c.args.scope.now) c.args.instruction c.as_slice.result.now s.operands s.result)) c.in-Some.is
    c.in_ok-found.ensures.ok).operands_stand

pub returns-in-Some-clause-ok : goal.returns-in-Some-clause-ok
returns-in-Some-clause-ok c =
    stepped (context_of c.args.scope.now) c.args.instruction c.args.stack.now.items c.apply.new.stack.items c.in-Some.signature
    c.apply.result c.requires.stand
    (subst (λ vs. IsBest (context_of c.args.scope.now) c.args.instruction vs c.in-Some.signature.operands c.in-Some.signature.result)
    c.as_slice.ensures.value
    (subst (λ o. MatchOption o (TakesNothing (context_of c.args.scope.now) c.args.instruction c.as_slice.result.now)
    (λ s. IsBest (context_of c.args.scope.now) c.args.instruction c.as_slice.result.now s.operands s.result)) c.in-Some.is
    c.in_ok-found.ensures.ok))
    c.apply.ensures.ok

pub returns-in-None-clause-ok : goal.returns-in-None-clause-ok
returns-in-None-clause-ok c =
    no_step (context_of c.args.scope.now) c.args.instruction c.args.stack.now.items
    (subst (λ vs. TakesNothing (context_of c.args.scope.now) c.args.instruction vs) c.as_slice.ensures.value
    (subst (λ o. MatchOption o (TakesNothing (context_of c.args.scope.now) c.args.instruction c.as_slice.result.now)
    (λ s. IsBest (context_of c.args.scope.now) c.args.instruction c.as_slice.result.now s.operands s.result)) c.in-None.is
    c.in_ok-found.ensures.ok))
