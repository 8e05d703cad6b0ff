use Rattle.smith_check_module.proofs.Common.{All, All-more, IsItem, refl, subst, take_all}
use Rattle.smith_check_module.specs.ConstScopes.{context_of}
use Rattle.smith_check_module.proofs.segments.are_functions_valid.Goals as goal

pub loop-function-preserved : goal.loop-function-preserved
loop-function-preserved c =
    All-more (IsItem (context_of c.args.scope.now) c.args.ty) c.args.functions.now _ _ c.loop-function-test.true c.loop-function.invariant
    (c.is_item.ensures.0 c.if-not-is_item.false)

pub returns : goal.returns
returns c = (
  λ _. subst (All (IsItem (context_of c.args.scope.now) c.args.ty)) (take_all _ c.args.functions.now c.loop-function-test.false)
      c.loop-function.invariant,
  λ _. refl,
)
