use Rattle.smith_check_module.proofs.Common.{false≢true, features_in, IfOk, IsInstrEnabled, MatchBool, subst, sym, ◌∙◌}
use Rattle.smith_check_module.specs.ConstScopes.{context_of}
use Rattle.smith_check_module.specs.Typings.{HasNoStep, IsBestStep}
use Rattle.smith_check_module.proofs.ExpressionLemmas.{gone, stops_off, stops_other}
use Rattle.smith_check_module.proofs.expression.go.Goals as goal

pub returns-in-None-clause-ok : goal.returns-in-None-clause-ok
returns-in-None-clause-ok c =
    stops_other (context_of c.args.scope.now) c.args.scope.now.indices.now c.args.instruction.now c.args.stack.now.items c.in-None.ensures

pub returns-then-not-is_enabled-clause-ok : goal.returns-then-not-is_enabled-clause-ok
returns-then-not-is_enabled-clause-ok c =
    stops_off (context_of c.args.scope.now) c.args.scope.now.indices.now c.args.instruction.now c.args.stack.now.items c.in-Some.constant
    c.in-Some.ensures
    (λ enabled. false≢true (sym c.if-not-is_enabled.true ∙ c.is_enabled.ensures.1
    (subst (λ d. IsInstrEnabled (features_in c.args.scope.now.features) c.args.scope.now.imported_globals d)
    (sym c.canonical_const-constant.ensures) enabled)))

pub returns-else-not-is_enabled-clause-ok : goal.returns-else-not-is_enabled-clause-ok
returns-else-not-is_enabled-clause-ok c =
    gone (context_of c.args.scope.now) c.args.scope.now.indices.now c.args.instruction.now c.args.stack.now.items c.step.new.stack.items
    c.in-Some.constant c.step.result c.in-Some.ensures
    (subst (λ d. IsInstrEnabled (features_in c.args.scope.now.features) c.args.scope.now.imported_globals d)
    c.canonical_const-constant.ensures (c.is_enabled.ensures.0 c.if-not-is_enabled.false))
    (subst (λ d. IfOk c.step.result (λ done. MatchBool done
    (IsBestStep (context_of c.args.scope.now) d c.args.stack.now.items c.step.new.stack.items)
    (HasNoStep (context_of c.args.scope.now) d c.args.stack.now.items))) c.canonical_const-constant.ensures c.step.ensures.ok)
