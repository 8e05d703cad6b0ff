use Rattle.smith_check_module.proofs.Common.{drop, IsValInRange, ◌↔◌}
use Rattle.std.specs.List.{All}
use Rattle.smith_check_module.specs.ConstScopes.{context_of}
use Rattle.smith_check_module.specs.ValidModules.{IsConstant}
use Rattle.smith_check_module.proofs.ExpressionLemmas.{IsRest}
use Rattle.smith_check_module.proofs.expression.is_constant.Given as goal

abbrev pub invariant-loop-instruction : goal.invariant-loop-instruction
invariant-loop-instruction l = record {
  stand : All (IsValInRange l.scope.types.now.types) l.stack.items;
  known : IsRest (context_of l.scope) l.scope.indices.now l.wanted l.stack.items (drop l.instruction-index l.expression)
      ↔ IsConstant (context_of l.scope) l.scope.indices.now l.wanted l.expression;
}
