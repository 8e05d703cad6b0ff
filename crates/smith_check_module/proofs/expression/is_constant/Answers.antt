use Rattle.smith_check_module.proofs.Common.{[], All-nil, IsValBelow, IsValInRange, MatchBool, subst, sym, ValType, ◌∷◌, ◌≡◌}
use Rattle.std.proofs.lemmas.List.Elements.{All-same}
use Rattle.smith_check_module.specs.ConstInstrs.{Goes, Stops}
use Rattle.smith_check_module.specs.ConstScopes.{context_of}
use Rattle.smith_check_module.proofs.ExpressionLemmas.{begun, finished, onward, stopped}
use Rattle.smith_check_module.proofs.expression.is_constant.Goals as goal

pub loop-instruction-init : goal.loop-instruction-init
loop-instruction-init c = record {
  stand = All-same (IsValInRange c.args.scope.now.types.now.types) c.new-stack.result.items [] c.new-stack.ensures.items
      (All-nil (IsValInRange c.args.scope.now.types.now.types));
  known = begun (context_of c.args.scope.now) c.args.scope.now.indices.now c.args.wanted c.args.expression.now c.new-stack.result.items
      c.new-stack.ensures.items;
}

pub loop-instruction-preserved : goal.loop-instruction-preserved
loop-instruction-preserved c =
    let goes : Goes (context_of c.args.scope.now) c.args.scope.now.indices.now c.instruction-item.result c.loop-instruction.stack.items
    c.go.new.stack.items =
    subst (λ b. MatchBool b (Goes (context_of c.args.scope.now) c.args.scope.now.indices.now c.instruction-item.result
    c.loop-instruction.stack.items c.go.new.stack.items)
    (Stops (context_of c.args.scope.now) c.args.scope.now.indices.now c.instruction-item.result c.loop-instruction.stack.items))
    c.if-not-done.false c.in_ok-done.ensures.ok in
    record {
      stand = goes.step.stand;
      known = onward (context_of c.args.scope.now) c.args.scope.now.indices.now c.args.wanted c.args.expression.now
          c.loop-instruction.instruction-index c.instruction-item.result c.loop-instruction-test.true c.instruction-item.is
          c.loop-instruction.stack.items c.loop-instruction.invariant.known c.go.new.stack.items goes;
    }

pub returns-then-not-done-clause-decided : goal.returns-then-not-done-clause-decided
returns-then-not-done-clause-decided c = (
  λ never. cc,
  λ e. absurd (stopped (context_of c.args.scope.now) c.args.scope.now.indices.now c.args.wanted c.args.expression.now
      c.loop-instruction.instruction-index c.instruction-item.result c.loop-instruction-test.true c.instruction-item.is
      c.loop-instruction.stack.items c.loop-instruction.invariant.known
      (subst (λ b. MatchBool b (Goes (context_of c.args.scope.now) c.args.scope.now.indices.now c.instruction-item.result
      c.loop-instruction.stack.items c.go.new.stack.items)
      (Stops (context_of c.args.scope.now) c.args.scope.now.indices.now c.instruction-item.result c.loop-instruction.stack.items))
      c.if-not-done.true c.in_ok-done.ensures.ok) e),
)

pub returns-clause-decided : goal.returns-clause-decided
returns-clause-decided c =
    let both = finished (context_of c.args.scope.now) c.args.scope.now.indices.now c.args.wanted c.args.expression.now
    c.loop-instruction.instruction-index c.loop-instruction.stack.items c.loop-instruction-test.false
    c.loop-instruction.invariant.known in (
      λ yes. both.0 (subst (λ vs. (value : ValType) × (vs ≡ value ∷ []) × IsValBelow c.args.scope.now.types.now.types value c.args.wanted)
          c.as_slice.ensures.value (c.is_value.ensures.0 yes)),
      λ e. c.is_value.ensures.1 (subst (λ vs. (value : ValType) × (vs ≡ value ∷ []) × IsValBelow c.args.scope.now.types.now.types value
          c.args.wanted) (sym c.as_slice.ensures.value) (both.1 e)),
    )
